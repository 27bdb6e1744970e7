use Rattle.inversion.proofs.Tightened.{in_range_tightened, solves_tightened, tight_tightened, valid_tightened}
use Rattle.inversion.proofs.reduction_laws.a_tightened_schedule_solves_the_same.Goals as goal

pub returns : goal.returns
returns c = record { valid = valid_tightened; in_range = in_range_tightened; tight = tight_tightened; solves = solves_tightened }
