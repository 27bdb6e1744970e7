use Rattle.std.proofs.Common.{◌≡◌, filter}
use Rattle.schedule.specs.{Placed.all_pairs, Tables.marked_at}
use Rattle.schedule.proofs.links.LinkTable.between.Given as goal

abbrev pub invariant-loop-from : goal.invariant-loop-from
invariant-loop-from l = l.links.items ≡ filter (marked_at l.self.cells) (all_pairs l.from l.nodes)
