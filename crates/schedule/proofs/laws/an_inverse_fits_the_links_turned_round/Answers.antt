use Rattle.schedule.proofs.Turning.{fits_both_ways}
use Rattle.schedule.proofs.laws.an_inverse_fits_the_links_turned_round.Goals as goal

pub returns : goal.returns
returns c = fits_both_ways
