use Rattle.frontier_audit.proofs.Proved.{proves_right}
use Rattle.frontier_audit.proofs.laws.proving_files_are_right.Goals as goal

pub returns : goal.returns
returns c = proves_right
