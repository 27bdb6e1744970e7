-- The frontiers of the parts, read one by one.
use Rattle.std.proofs.Common.{◌≡◌, ℕ, ◌+◌, ◌<◌, List, [], ◌∷◌, ◌++◌, length, get_or, drop, Result, Ok, Err, refl, append_assoc, add-one, drop-cons}
use Rattle.text_lines.specs.{Text.Place, Check.◌>>=◌}
use Rattle.outer_ports.specs.declared.part.Part.{Part}
use Rattle.candidate_order.specs.Frontiers.{FrontierValue}
use Rattle.topology_text.specs.Value.{NamedTopologyValue}
use Rattle.report_form.specs.{declared.fault.ReportCode.ReportCode, Reports.{WordsValue, question_of}, Reading.{frontier_at, frontiers_from}}

-- frontiers behind those that were read before
abbrev pub behind_frontiers : List (Part × FrontierValue) → Result (List (Part × FrontierValue) × Place) (ReportCode × ℕ) → Result (List (Part × FrontierValue) × Place) (ReportCode × ℕ)
behind_frontiers before (Ok x) = Ok (before ++ x.0, x.1)
behind_frontiers before (Err e) = Err e

behind_one : (before : List (Part × FrontierValue)) (x : Part × FrontierValue) (r : Result (List (Part × FrontierValue) × Place) (ReportCode × ℕ)) → behind_frontiers (before ++ x ∷ []) r ≡ behind_frontiers before (r >>= (λ rest. Ok (x ∷ rest.0, rest.1)))
behind_one before x (Ok rest) = rw append_assoc refl
behind_one before x (Err e) = refl

abbrev one_read : FrontierValue → Place → Result (FrontierValue × Place) (ReportCode × ℕ)
one_read x q = Ok (x, q)

-- behind a frontier go on those of the parts that are left
pub frontier_read : (words : WordsValue) (t : NamedTopologyValue) (parts : List Part) (i : ℕ) (d : Part) (p q : Place) (x : FrontierValue) (before now : List (Part × FrontierValue)) → i < length parts → frontier_at t.names (question_of words t (get_or parts i d)) (get_or parts i d) p ≡ one_read x q → now ≡ before ++ (get_or parts i d, x) ∷ []
    → behind_frontiers now (frontiers_from words t (drop (i + 1) parts) q) ≡ behind_frontiers before (frontiers_from words t (drop i parts) p)
frontier_read words t parts i d p q x before now here read all =
    rw (all, behind_one before (get_or parts i d, x) (frontiers_from words t (drop (i + 1) parts) q), add-one, drop-cons parts i d, read) refl
