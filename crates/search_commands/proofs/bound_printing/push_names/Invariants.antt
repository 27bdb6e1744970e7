use Rattle.std.proofs.Common.{◌≡◌, ◌++◌}
use Rattle.text_lines.specs.Text.{fields}
use Rattle.search_commands.proofs.Pieces.{names_below}
use Rattle.search_commands.proofs.bound_printing.push_names.Given as goal

abbrev pub invariant-loop-node : goal.invariant-loop-node
invariant-loop-node l = l.out.items ≡ l.initial.out.items ++ fields (names_below l.names l.nodes l.node)
