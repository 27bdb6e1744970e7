use Rattle.candidate_order.proofs.Settled.{same_points, same_refuted}
use Rattle.candidate_order.proofs.frontier_laws.settled_frontiers_agree.Goals as goal

pub returns : goal.returns
returns c = record { points = same_points; refuted = same_refuted }
