use Rattle.std.{proofs.Common.{◌≡◌, ◌++◌, filter, map}, specs.List.range_with_len}
use Rattle.schedule.specs.Tables.{marked_at}
use Rattle.schedule.proofs.links.LinkTable.push_from.Given as goal

abbrev pub invariant-loop-to : goal.invariant-loop-to
invariant-loop-to l = l.links.items ≡ l.initial.links.items ++ filter (marked_at l.self.cells) (map (λ to. (l.from, to)) (range_with_len 0 l.to))
