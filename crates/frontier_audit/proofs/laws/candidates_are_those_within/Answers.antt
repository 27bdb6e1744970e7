use Rattle.frontier_audit.proofs.{Tried.candidates_exactly, InOrder.within_ascends}
use Rattle.frontier_audit.proofs.laws.candidates_are_those_within.Goals as goal

pub returns : goal.returns
returns c = record { members = candidates_exactly; order = within_ascends }
