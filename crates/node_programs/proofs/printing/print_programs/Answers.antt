use Rattle.std.proofs.Common.{append_assoc, arith}
use Rattle.topology_text.proofs.Printed.{appended_three}
use Rattle.node_programs.proofs.Printed.{first_nodes, nodes_all, nodes_more, text_is}
use Rattle.node_programs.proofs.printing.print_programs.Goals as goal

pub loop-node-preserved : goal.loop-node-preserved
loop-node-preserved c = grind (arith, append_assoc, first_nodes, nodes_more)

pub returns : goal.returns
returns c = grind (arith, appended_three, nodes_all, append_assoc, text_is)
