use Rattle.candidate_formula.proofs.Spelled.{read_as_spelled}
use Rattle.candidate_formula.proofs.log_laws.proof_texts_are_read_as_they_are_spelled.Goals as goal

pub returns : goal.returns
returns c = read_as_spelled
