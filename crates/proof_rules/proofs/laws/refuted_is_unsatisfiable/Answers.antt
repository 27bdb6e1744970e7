use Rattle.proof_rules.proofs.Calm.{never_refuted_after}
use Rattle.proof_rules.proofs.laws.refuted_is_unsatisfiable.Goals as goal

pub returns : goal.returns
returns c = never_refuted_after
