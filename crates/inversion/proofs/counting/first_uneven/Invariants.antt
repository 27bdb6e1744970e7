use Rattle.std.proofs.Common.{◌≡◌}
use Rattle.schedule.specs.Placed.{holds}
use Rattle.bag_runs.specs.Stores.{bags_in}
use Rattle.inversion.{specs.Judging.first_uneven, proofs.Uneven.grid_from}
use Rattle.inversion.proofs.counting.first_uneven.Given as goal

abbrev pub invariant-loop-chunk : goal.invariant-loop-chunk
invariant-loop-chunk l = grid_from (bags_in l.store) l.store.nodes (holds l.demand) l.chunk l.demand.chunks ≡ first_uneven (bags_in l.store) l.store.nodes l.demand.pairs
