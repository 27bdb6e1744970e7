use Rattle.proof_audit.proofs.Standing.{standing_refute}
use Rattle.proof_audit.proofs.laws.files_that_stand_refute.Goals as goal

pub returns : goal.returns
returns c = standing_refute
