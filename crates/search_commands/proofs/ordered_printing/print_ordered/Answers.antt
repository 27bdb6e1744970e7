use Rattle.std.proofs.Common.{append_assoc, arith}
use Rattle.search_commands.proofs.Printed.{ordered_is}
use Rattle.search_commands.proofs.ordered_printing.print_ordered.Goals as goal

pub returns : goal.returns
returns c = grind (arith, append_assoc, ordered_is)
