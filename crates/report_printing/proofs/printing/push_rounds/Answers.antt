use Rattle.std.proofs.Common.{append_assoc, arith, codes, decimal, map}
use Rattle.report_printing.proofs.Pieces.{line_is}
use Rattle.report_printing.proofs.printing.push_rounds.Goals as goal

pub returns : goal.returns
returns c = grind (arith, append_assoc, line_is (codes "rounds") (map decimal c.args.rounds.now))
