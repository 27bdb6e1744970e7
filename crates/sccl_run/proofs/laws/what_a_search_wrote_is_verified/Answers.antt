use Rattle.sccl_run.proofs.Verified.{verified_again}
use Rattle.sccl_run.proofs.laws.what_a_search_wrote_is_verified.Goals as goal

pub returns : goal.returns
returns c = verified_again
