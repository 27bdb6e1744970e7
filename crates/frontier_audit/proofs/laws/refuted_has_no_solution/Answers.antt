use Rattle.frontier_audit.proofs.Unsolvable.{no_solution}
use Rattle.frontier_audit.proofs.laws.refuted_has_no_solution.Goals as goal

pub returns : goal.returns
returns c = no_solution
