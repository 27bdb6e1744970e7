use Rattle.frontier_audit.{specs.inner.Steps.part_checked, proofs.Merging.Walks}
use Rattle.frontier_audit.proofs.parts.parts_denied.Given as goal

abbrev pub invariant-loop-part : goal.invariant-loop-part
invariant-loop-part g l = let H = g.H.Shelf in Walks (H.tells l.fn.shelf) (H.tells l.shelf) (H.faults l.fn.shelf) (H.faults l.shelf) (H.file l.fn.shelf) (H.file l.shelf) (part_checked l.report) l.report.frontiers l.part-index
