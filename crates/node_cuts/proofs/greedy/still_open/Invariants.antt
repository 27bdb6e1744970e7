use Rattle.std.proofs.Common.{◌≡◌, take, filter}
use Rattle.schedule.specs.Judging.{group_at}
use Rattle.node_cuts.specs.Opened.{is_open}
use Rattle.node_cuts.proofs.greedy.still_open.Given as goal

abbrev pub invariant-loop-number : goal.invariant-loop-number
invariant-loop-number l = l.left.items ≡ filter (λ group. is_open l.uncovered.cells (group_at l.topology group)) (take l.number-index l.numbers)
