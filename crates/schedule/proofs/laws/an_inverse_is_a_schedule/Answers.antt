use Rattle.schedule.proofs.Inverting.{inverse_in_range, same_rounds, valid_inverse}
use Rattle.schedule.proofs.laws.an_inverse_is_a_schedule.Goals as goal

pub returns : goal.returns
returns c = record { steps = λ s. (same_rounds s).0; rounds = λ s. (same_rounds s).1; in_range = inverse_in_range; valid = valid_inverse }
