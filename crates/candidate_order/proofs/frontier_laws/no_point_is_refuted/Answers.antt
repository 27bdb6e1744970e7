use Rattle.candidate_order.proofs.Frontiers.{never_both}
use Rattle.candidate_order.proofs.frontier_laws.no_point_is_refuted.Goals as goal

pub returns : goal.returns
returns c = never_both
