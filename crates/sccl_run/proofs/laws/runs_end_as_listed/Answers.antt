use Rattle.sccl_run.proofs.Listed.{ends_listed}
use Rattle.sccl_run.proofs.laws.runs_end_as_listed.Goals as goal

pub returns : goal.returns
returns c = ends_listed
