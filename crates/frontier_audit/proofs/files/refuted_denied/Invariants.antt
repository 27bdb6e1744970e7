use Rattle.frontier_audit.{specs.inner.Steps.refuted_checked, proofs.Merging.Walks}
use Rattle.frontier_audit.proofs.files.refuted_denied.Given as goal

abbrev pub invariant-loop-candidate : goal.invariant-loop-candidate
invariant-loop-candidate g l = let H = g.H.Shelf in Walks (H.tells l.fn.shelf) (H.tells l.shelf) (H.faults l.fn.shelf) (H.faults l.shelf) (H.file l.fn.shelf) (H.file l.shelf) (refuted_checked l.part l.asked) l.refuted l.candidate-index
