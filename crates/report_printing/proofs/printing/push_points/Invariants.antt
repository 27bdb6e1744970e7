use Rattle.std.{proofs.Common.{◌≡◌, ◌++◌, take}, specs.List.flat_map}
use Rattle.report_printing.specs.Printed.{point_text}
use Rattle.report_printing.proofs.printing.push_points.Given as goal

abbrev pub invariant-loop-point : goal.invariant-loop-point
invariant-loop-point l = l.out.items ≡ l.initial.out.items ++ flat_map (point_text l.names) (take l.point-index l.points)
