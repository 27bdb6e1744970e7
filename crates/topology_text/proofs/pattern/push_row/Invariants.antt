use Rattle.std.proofs.Common.{◌≡◌, ◌++◌, take}
use Rattle.topology_text.specs.Reading.{row_of_pairs}
use Rattle.topology_text.proofs.pattern.push_row.Given as goal

abbrev pub invariant-loop-node : goal.invariant-loop-node
invariant-loop-node l = l.pairs.items ≡ l.initial.pairs.items ++ row_of_pairs l.chunk (take l.node-index l.nodes)
