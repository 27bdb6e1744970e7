use Rattle.inversion.proofs.Tightened.{summed_exactly}
use Rattle.inversion.proofs.reduction_laws.sums_are_had_where_chunks_are_brought_back.Goals as goal

pub returns : goal.returns
returns c = summed_exactly
