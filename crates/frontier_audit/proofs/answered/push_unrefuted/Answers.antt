use Rattle.std.proofs.{Common.arith, lemmas.Grind.common_steps}
use Rattle.frontier_audit.proofs.Tried.{listed_by}
use Rattle.frontier_audit.proofs.answered.push_unrefuted.Goals as goal

pub loop-candidate-preserved : goal.loop-candidate-preserved
loop-candidate-preserved c = grind (arith, listed_by, common_steps)
