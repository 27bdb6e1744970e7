use Rattle.sccl_run.proofs.KeptRuns.{formula_changed_is_wrong, proof_changed_is_wrong}
use Rattle.sccl_run.proofs.laws.a_search_that_forgets_to_keep_is_wrong.Goals as goal

pub returns-clause-formula : goal.returns-clause-formula
returns-clause-formula c = formula_changed_is_wrong

pub returns-clause-proof : goal.returns-clause-proof
returns-clause-proof c = proof_changed_is_wrong
