use Rattle.std.{proofs.Common.{◌≡◌, ◌++◌, drop, slice_get}, specs.List.flat_map}
use Rattle.report_form.{specs.Numbered.point_at, proofs.PointNumbers.{of_part, joined_points}}
use Rattle.report_form.proofs.numbered.point_at.Given as goal

abbrev pub invariant-loop-part : goal.invariant-loop-part
invariant-loop-part l = slice_get (flat_map of_part (drop l.part-index l.part-items) ++ joined_points l.report.joined) l.left ≡ point_at l.report l.number
