use Rattle.schedule.proofs.Placing.{holds-placed, placement-placed}
use Rattle.schedule.proofs.laws.a_test_gives_a_placement.Goals as goal

pub returns : goal.returns
returns c = record { held = holds-placed; placement = placement-placed }
