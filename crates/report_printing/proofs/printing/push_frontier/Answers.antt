use Rattle.std.proofs.Common.{append_assoc, arith}
use Rattle.report_printing.proofs.Pieces.{frontier_is, part_line}
use Rattle.report_printing.proofs.printing.push_frontier.Goals as goal

pub returns : goal.returns
returns c = grind (arith, append_assoc, frontier_is c.args.names.now c.args.part c.args.frontier.now, part_line c.args.part)
