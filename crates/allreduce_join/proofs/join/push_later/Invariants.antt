use Rattle.std.proofs.Common.{◌≡◌, ◌++◌, map, take}
use Rattle.allreduce_join.proofs.join.push_later.Given as goal
use Rattle.allreduce_join.proofs.Later.{later}

abbrev pub invariant-loop-hop : goal.invariant-loop-hop
invariant-loop-hop l = l.sends.items ≡ l.fn.sends.items ++ map (later l.steps) (take l.hop-index l.second.sends)
