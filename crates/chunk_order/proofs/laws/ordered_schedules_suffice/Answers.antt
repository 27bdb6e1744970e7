use Rattle.chunk_order.proofs.Sufficing.{ordered_suffice}
use Rattle.chunk_order.proofs.laws.ordered_schedules_suffice.Goals as goal

pub returns : goal.returns
returns c = ordered_suffice
