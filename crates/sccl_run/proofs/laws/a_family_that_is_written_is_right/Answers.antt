use Rattle.sccl_run.proofs.FamilyRuns.{family_is_right}
use Rattle.sccl_run.proofs.laws.a_family_that_is_written_is_right.Goals as goal

pub returns : goal.returns
returns c = family_is_right
