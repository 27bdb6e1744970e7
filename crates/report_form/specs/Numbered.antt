-- The points of a report in the order in which they are printed, joined ones last. This project's own.
use Rattle.std.specs.{Prelude.{ℕ, zero, suc, List, ◌++◌, map, Option, None, slice_get}, List.flat_map}
use Rattle.outer_ports.specs.declared.part.Part.{Part, TheVariants.Joined}
use Rattle.candidate_order.specs.Frontiers.{PointValue}
use Rattle.report_form.specs.Reports.{ReportValue}

abbrev pub points_of : ReportValue → List (Part × PointValue)
points_of r = flat_map (λ x. map (λ p. (x.0, p)) x.1.points) r.frontiers ++ map (λ p. (Joined, p)) r.joined

-- points are numbered from 1
abbrev pub point_at : ReportValue → ℕ → Option (Part × PointValue)
point_at r zero = None
point_at r (suc n) = slice_get (points_of r) n
