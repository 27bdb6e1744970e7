use Rattle.node_cuts.proofs.Flooring.{floor_bounds}
use Rattle.node_cuts.proofs.laws.floors_bound.Goals as goal

pub returns : goal.returns
returns c = floor_bounds
