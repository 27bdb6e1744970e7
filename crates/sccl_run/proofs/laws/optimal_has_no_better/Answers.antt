use Rattle.sccl_run.proofs.RightRuns.{written_is_right}
use Rattle.sccl_run.proofs.laws.optimal_has_no_better.Goals as goal

pub returns : goal.returns
returns c = written_is_right
