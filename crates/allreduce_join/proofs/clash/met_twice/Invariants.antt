use Rattle.std.proofs.Common.{take}
use Rattle.allreduce_join.proofs.Meeting.{IsMet}
use Rattle.allreduce_join.proofs.clash.met_twice.Given as goal

abbrev pub invariant-loop-hop : goal.invariant-loop-hop
invariant-loop-hop l = IsMet l.chunks l.nodes l.step (take l.hop-index l.hop-items) l.met l.twice
