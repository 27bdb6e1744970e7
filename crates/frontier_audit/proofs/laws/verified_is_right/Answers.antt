use Rattle.frontier_audit.proofs.{Right.verified_joins, Unsolvable.all_right, Verified.report_right}
use Rattle.frontier_audit.proofs.laws.verified_is_right.Goals as goal

pub returns : goal.returns
returns c = record { frontiers = all_right; joins = verified_joins; report = report_right }
