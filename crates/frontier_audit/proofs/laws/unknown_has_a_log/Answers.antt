use Rattle.frontier_audit.proofs.Shelves.{has_log}
use Rattle.frontier_audit.proofs.laws.unknown_has_a_log.Goals as goal

pub returns : goal.returns
returns c = has_log
