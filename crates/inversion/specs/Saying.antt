-- Whether a verdict says that a schedule does what is asked.
use Rattle.std.specs.Prelude.{Bool, true, false}
use Rattle.schedule.specs.declared.verdict.Verdict.{Verdict}
use Rattle.schedule.specs.declared.verdict.Verdict.TheVariants as verdict
use Rattle.inversion.specs.declared.verdict.SumVerdict.{SumVerdict}
use Rattle.inversion.specs.declared.verdict.SumVerdict.TheVariants as sums

abbrev pub says_solves : Verdict → Bool
says_solves verdict.Solves = true
says_solves _ = false

abbrev pub says_sums : SumVerdict → Bool
says_sums sums.Sums = true
says_sums _ = false
