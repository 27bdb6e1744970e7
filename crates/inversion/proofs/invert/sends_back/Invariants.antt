use Rattle.std.proofs.Common.{◌≡◌, take, map, length}
use Rattle.schedule.specs.Inverse.{inverse_hop}
use Rattle.inversion.proofs.invert.sends_back.Given as goal

abbrev pub invariant-loop-hop : goal.invariant-loop-hop
invariant-loop-hop l = l.sends.items ≡ map (inverse_hop (length l.schedule.rounds)) (take l.hop-index l.schedule.sends)
