use Rattle.inversion.proofs.Delivering.{inverse_solves}
use Rattle.inversion.proofs.reduction_laws.an_inverse_of_a_sum_solves.Goals as goal

pub returns : goal.returns
returns c = inverse_solves
