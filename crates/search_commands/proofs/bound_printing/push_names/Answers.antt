use Rattle.std.proofs.Common.{append_assoc, arith}
use Rattle.search_commands.proofs.Pieces.{names_more}
use Rattle.search_commands.proofs.bound_printing.push_names.Goals as goal

pub loop-node-preserved : goal.loop-node-preserved
loop-node-preserved c = grind (arith, append_assoc, names_more)
