use Rattle.collective_spec.proofs.Copying.{one_copy}
use Rattle.collective_spec.proofs.laws.one_copy_is_the_pattern.Goals as goal

pub returns : goal.returns
returns c = one_copy
