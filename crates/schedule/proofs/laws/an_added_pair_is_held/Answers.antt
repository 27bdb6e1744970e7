use Rattle.schedule.proofs.Placing.{holds-with_pair, placement-with_pair}
use Rattle.schedule.proofs.laws.an_added_pair_is_held.Goals as goal

pub returns : goal.returns
returns c = record { held = holds-with_pair; placement = placement-with_pair }
