use Rattle.schedule.proofs.Inverted.{inverse_sums}
use Rattle.schedule.proofs.laws.an_inverse_sums.Goals as goal

pub returns : goal.returns
returns c = inverse_sums
