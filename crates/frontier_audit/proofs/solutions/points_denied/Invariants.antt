use Rattle.std.specs.Prelude.{◌≡◌, drop}
use Rattle.frontier_audit.specs.{Denials.each, inner.Steps.point_checked, Beside.denial_of}
use Rattle.frontier_audit.proofs.solutions.points_denied.Given as goal

abbrev pub invariant-loop-point : goal.invariant-loop-point
invariant-loop-point l = denial_of (each (point_checked l.asked) (drop l.point-index l.points)) ≡ denial_of (each (point_checked l.asked) l.points)
