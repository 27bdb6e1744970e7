use Rattle.std.proofs.Common.{◌≡◌, ◌++◌, map, take}
use Rattle.text_lines.specs.Text.{text_of}
use Rattle.node_programs.specs.Printing.{op_words}
use Rattle.node_programs.proofs.printing.push_node.Given as goal

abbrev pub invariant-loop-op : goal.invariant-loop-op
invariant-loop-op l = l.out.items ≡ l.initial.out.items ++ text_of (map (op_words l.names) (take l.op-index l.ops))
