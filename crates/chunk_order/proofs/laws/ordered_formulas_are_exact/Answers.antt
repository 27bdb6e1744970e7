use Rattle.chunk_order.proofs.Sufficing.{exactly_solvable}
use Rattle.chunk_order.proofs.laws.ordered_formulas_are_exact.Goals as goal

pub returns : goal.returns
returns c = exactly_solvable
