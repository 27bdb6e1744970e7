-- The JSON of candidates that are refuted, and of those that are unknown, as the table of a report has it.
use Rattle.std.specs.Prelude.{ℕ, List, [], ◌∷◌, codes}
use Rattle.candidate_order.specs.{declared.candidate.Candidate.Candidate, Frontiers.UnknownValue}
use Rattle.json_values.specs.Forms.{Form, lined}
use Rattle.json_rules.specs.ReportForm.{counts}

abbrev pub refuted : Form (List (List ℕ)) Candidate
refuted = lined (codes "refuted") (counts ((λ x. x.s) ∷ (λ x. x.r) ∷ (λ x. x.c) ∷ []))

abbrev pub unknown : Form (List (List ℕ)) UnknownValue
unknown = lined (codes "unknown") (counts ((λ u. u.candidate.s) ∷ (λ u. u.candidate.r) ∷ (λ u. u.candidate.c) ∷ (λ u. u.conflicts) ∷ []))
