use Rattle.sccl_run.proofs.RightRuns.{refused_not_done}
use Rattle.sccl_run.proofs.laws.refused_is_not_done.Goals as goal

pub returns : goal.returns
returns c = refused_not_done
