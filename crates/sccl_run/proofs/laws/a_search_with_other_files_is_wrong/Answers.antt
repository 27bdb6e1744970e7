use Rattle.sccl_run.proofs.WrongRuns.{formula_lacks_is_wrong, stale_is_wrong}
use Rattle.sccl_run.proofs.laws.a_search_with_other_files_is_wrong.Goals as goal

pub returns-clause-formula : goal.returns-clause-formula
returns-clause-formula c = formula_lacks_is_wrong

pub returns-clause-stale : goal.returns-clause-stale
returns-clause-stale c = stale_is_wrong
