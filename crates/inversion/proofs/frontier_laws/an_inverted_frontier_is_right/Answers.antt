use Rattle.inversion.proofs.Reducing.{reduction_right, reduction_searched}
use Rattle.inversion.proofs.frontier_laws.an_inverted_frontier_is_right.Goals as goal

pub returns : goal.returns
returns c = record { right = reduction_right; searched = reduction_searched }
