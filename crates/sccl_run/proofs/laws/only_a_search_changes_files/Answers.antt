use Rattle.sccl_run.proofs.RightRuns.{unchanged}
use Rattle.sccl_run.proofs.laws.only_a_search_changes_files.Goals as goal

pub returns : goal.returns
returns c = unchanged
