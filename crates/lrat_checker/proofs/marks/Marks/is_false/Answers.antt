use Rattle.std.proofs.{Common.arith, lemmas.Grind.common_steps}
use Rattle.lrat_checker.proofs.Marked.{has_times, has-reverse}
use Rattle.lrat_checker.proofs.marks.Marks.is_false.Goals as goal

pub returns : goal.returns
returns c = grind (arith, common_steps, has_times, has-reverse)
