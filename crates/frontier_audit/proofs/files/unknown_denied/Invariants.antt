use Rattle.frontier_audit.{specs.Auditing.unknown_checked, proofs.Merging.Walks}
use Rattle.frontier_audit.proofs.files.unknown_denied.Given as goal

abbrev pub invariant-loop-given_up : goal.invariant-loop-given_up
invariant-loop-given_up g l = let H = g.H.Shelf in Walks (H.tells l.fn.shelf) (H.tells l.shelf) (H.faults l.fn.shelf) (H.faults l.shelf) (H.file l.fn.shelf) (H.file l.shelf) (unknown_checked l.part l.asked) l.unknown l.given_up-index
