use Rattle.proof_rules.proofs.InTurn.{learned_exactly}
use Rattle.proof_rules.proofs.laws.lines_are_accepted_by_their_verdicts.Goals as goal

pub returns-clause-learned : goal.returns-clause-learned
returns-clause-learned c = learned_exactly
