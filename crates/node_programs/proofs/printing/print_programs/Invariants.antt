use Rattle.std.{proofs.Common.{◌≡◌, ◌++◌, take}, specs.List.{flat_map, zip}}
use Rattle.text_lines.specs.Text.{text_of}
use Rattle.node_programs.specs.Printing.{node_lines}
use Rattle.node_programs.proofs.printing.print_programs.Given as goal

abbrev pub invariant-loop-node : goal.invariant-loop-node
invariant-loop-node l = l.out.items ≡ l.initial.out.items ++ text_of (flat_map (node_lines l.names) (take l.node (zip l.names l.programs)))
