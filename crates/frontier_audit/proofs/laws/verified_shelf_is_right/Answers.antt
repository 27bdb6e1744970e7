use Rattle.frontier_audit.proofs.Audited.{shelf_right}
use Rattle.frontier_audit.proofs.laws.verified_shelf_is_right.Goals as goal

pub returns : goal.returns
returns c = shelf_right
