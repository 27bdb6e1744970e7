use Rattle.chunk_order.proofs.Sufficing.{decodes_ordered, ordered_satisfies}
use Rattle.chunk_order.proofs.laws.ordered_formulas_say_ordered_schedules.Goals as goal

pub returns : goal.returns
returns c = record { says = decodes_ordered; met = ordered_satisfies }
