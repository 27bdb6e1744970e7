use Rattle.std.proofs.Common.{arith}
use Rattle.lrat_text.proofs.Trailed.{clause_text}
use Rattle.lrat_text.proofs.printing.push_clause.Goals as goal

pub returns : goal.returns
returns c = grind (arith, clause_text)
