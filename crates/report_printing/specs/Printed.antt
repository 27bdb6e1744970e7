-- Pieces of a report's text. This project's own.
use Rattle.std.specs.Prelude.{ℕ, List, ◌++◌, codes, decimal}
use Rattle.text_lines.specs.Text.{text_of}
use Rattle.outer_ports.specs.declared.part.Part.{Part}
use Rattle.candidate_order.specs.{Ranges.LimitsValue, Frontiers.{PointValue, FrontierValue}}
use Rattle.report_form.specs.Spelling.{point_lines, frontier_lines}

abbrev pub point_text : List (List ℕ) → PointValue → List ℕ
point_text names p = text_of (point_lines names p)

abbrev pub frontier_text : List (List ℕ) → Part × FrontierValue → List ℕ
frontier_text names x = text_of (frontier_lines names x)

-- the keys of the limits with their values
abbrev pub limits_text : LimitsValue → List ℕ
limits_text l =
    (codes " k=" ++ decimal l.k) ++ ((codes " steps=" ++ decimal l.max_s) ++ ((codes " chunks=" ++ decimal l.max_c) ++ (codes " conflicts=" ++ decimal l.conflicts)))
