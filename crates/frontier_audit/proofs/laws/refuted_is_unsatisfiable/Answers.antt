use Rattle.frontier_audit.proofs.{Shelves.unsatisfiable, Unsolvable.no_model}
use Rattle.frontier_audit.proofs.laws.refuted_is_unsatisfiable.Goals as goal

pub returns : goal.returns
returns c = record { uncut = unsatisfiable; each = no_model }
