use Rattle.std.proofs.Common.{◌≡◌, take}
use Rattle.schedule.specs.Placed.{placed}
use Rattle.topology_text.proofs.Inserted.{among}
use Rattle.topology_text.proofs.pattern.placement_of.Given as goal

abbrev pub invariant-loop-chunk : goal.invariant-loop-chunk
invariant-loop-chunk l = l.placement ≡ placed l.chunks l.nodes (among (take l.chunk-index l.pairs))
