use Rattle.candidate_order.proofs.Frontiers.{stands_alone}
use Rattle.candidate_order.proofs.frontier_laws.no_point_is_dominated.Goals as goal

pub returns : goal.returns
returns c = stands_alone
