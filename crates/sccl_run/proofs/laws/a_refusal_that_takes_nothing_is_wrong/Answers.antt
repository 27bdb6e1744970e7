use Rattle.sccl_run.proofs.WrongRuns.{untaken_is_wrong}
use Rattle.sccl_run.proofs.laws.a_refusal_that_takes_nothing_is_wrong.Goals as goal

pub returns : goal.returns
returns c = untaken_is_wrong
