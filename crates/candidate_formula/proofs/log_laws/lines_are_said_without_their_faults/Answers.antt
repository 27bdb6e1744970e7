use Rattle.candidate_formula.proofs.Said.{said_exactly}
use Rattle.candidate_formula.proofs.log_laws.lines_are_said_without_their_faults.Goals as goal

pub returns : goal.returns
returns c = said_exactly
