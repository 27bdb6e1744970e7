use Rattle.std.proofs.Common.{◌≡◌}
use Rattle.schedule.specs.Placed.{holds}
use Rattle.bag_runs.specs.Stores.{bags_in}
use Rattle.inversion.proofs.Uneven.{row_from, whole_row}
use Rattle.inversion.proofs.counting.uneven_in_row.Given as goal

abbrev pub invariant-loop-node : goal.invariant-loop-node
invariant-loop-node l = row_from (bags_in l.store) l.store.nodes (holds l.demand) l.chunk l.node ≡ whole_row (bags_in l.store) l.store.nodes (holds l.demand) l.chunk
