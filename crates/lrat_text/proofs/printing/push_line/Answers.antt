use Rattle.std.proofs.Common.{arith}
use Rattle.lrat_text.proofs.Trailed.{addition_text}
use Rattle.lrat_text.proofs.printing.push_line.Goals as goal

pub returns : goal.returns
returns c = grind (arith, addition_text)
