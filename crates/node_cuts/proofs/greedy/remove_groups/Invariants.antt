use Rattle.std.proofs.Common.{take}
use Rattle.node_cuts.specs.Opened.{RemovesGroups}
use Rattle.node_cuts.proofs.greedy.remove_groups.Given as goal

abbrev pub invariant-loop-number : goal.invariant-loop-number
invariant-loop-number l = RemovesGroups l.initial.uncovered.cells l.uncovered.cells l.topology (take l.number-index l.numbers)
