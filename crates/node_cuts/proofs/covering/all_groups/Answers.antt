use Rattle.std.proofs.Common.{arith}
use Rattle.node_cuts.proofs.Masks.{range_more}
use Rattle.node_cuts.proofs.covering.all_groups.Goals as goal

pub loop-number-preserved : goal.loop-number-preserved
loop-number-preserved c = grind (arith, range_more)
