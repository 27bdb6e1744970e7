use Rattle.std.{proofs.Common.{arith}}
use Rattle.node_cuts.proofs.Filling.{kept_no, kept_yes}
use Rattle.node_cuts.proofs.greedy.ascending.Goals as goal

pub loop-number-preserved : goal.loop-number-preserved
loop-number-preserved c = grind (arith, kept_yes, kept_no)
