use Rattle.schedule.proofs.Verdicts.{fits_exactly}
use Rattle.schedule.proofs.laws.a_schedule_fits_where_nothing_fails.Goals as goal

pub returns : goal.returns
returns c = fits_exactly
