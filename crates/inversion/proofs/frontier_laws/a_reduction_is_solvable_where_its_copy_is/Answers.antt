use Rattle.inversion.proofs.Copied.{solvable_exactly}
use Rattle.inversion.proofs.frontier_laws.a_reduction_is_solvable_where_its_copy_is.Goals as goal

pub returns : goal.returns
returns c = solvable_exactly
