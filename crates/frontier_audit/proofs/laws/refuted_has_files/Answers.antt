use Rattle.frontier_audit.proofs.Shelves.{has_formula, has_proof}
use Rattle.frontier_audit.proofs.laws.refuted_has_files.Goals as goal

pub returns : goal.returns
returns c = record { formula = has_formula; proof = has_proof }
