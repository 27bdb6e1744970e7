use Rattle.sccl_run.proofs.Floors.{bound_is_true, degraded_is_true, ordered_is_true}
use Rattle.sccl_run.proofs.headline.what_other_searches_print_is_true.Goals as goal

pub returns-clause-bound : goal.returns-clause-bound
returns-clause-bound c = bound_is_true

pub returns-clause-ordered : goal.returns-clause-ordered
returns-clause-ordered c = ordered_is_true

pub returns-clause-degraded : goal.returns-clause-degraded
returns-clause-degraded c = degraded_is_true
