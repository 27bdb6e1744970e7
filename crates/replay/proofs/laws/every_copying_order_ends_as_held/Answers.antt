use Rattle.replay.proofs.Throughout.{ends_as_held}
use Rattle.replay.proofs.laws.every_copying_order_ends_as_held.Goals as goal

pub returns : goal.returns
returns c = ends_as_held
