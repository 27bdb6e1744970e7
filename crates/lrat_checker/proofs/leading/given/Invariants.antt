use Rattle.std.proofs.Common.{◌≡◌, drop}
use Rattle.proof_rules.specs.{Held.open_literals, Judging.given_by}
use Rattle.lrat_checker.proofs.Taken.{goes_on}
use Rattle.lrat_checker.proofs.leading.given.Given as goal

abbrev pub invariant-loop-lit : goal.invariant-loop-lit
invariant-loop-lit l = given_by (open_literals l.marks.falses l.clause) ≡ goes_on l.open (open_literals l.marks.falses (drop l.lit-index l.clause))
