-- At most one line of a text is the first at which it can no longer be a report's.
use Rattle.std.{proofs.{Common.{◌≡◌, ℕ, ◌-◌, ◌<◌, inl, inr, List, [], refl, sym, ap, ◌∙◌, arith, take, Ok}, lemmas.{Bool.cases_order, List.take-take}}, specs.Fmt.digits}
use Rattle.text_lines.specs.Text.{rows_of}
use Rattle.topology_text.specs.{Reading.pattern_at}
use Rattle.report_form.specs.{Reports.{IsReport}, Spelling.{report_text}, Reading.{report_of, body_of, frontier_at}, Points.{frontier_point_at, joined_point_at, schedule_at}}
use Rattle.report_form.{specs.{First.{FailsFirstAt}, Rows.broadcast_report}, proofs.ReportTaken.report_take}

not_later : (text : List ℕ) (m n : ℕ) → FailsFirstAt text m → FailsFirstAt text n → m < n → ⊥
not_later text m n a b less = let (r, valid, agrees) = b.before in a.now r valid (sym (take-take m (n - 1) (rows_of text) (omega (arith, less))) ∙ (ap (take m) agrees ∙ take-take m (n - 1) (rows_of (report_text r)) (omega (arith, less))))

pub one_line : (text : List ℕ) (m n : ℕ) → FailsFirstAt text m → FailsFirstAt text n → m ≡ n
one_line text m n a b = elim (cases_order m n) [
  | inl same ↦ same
  | inr (inl less) ↦ absurd (not_later text m n a b less)
  | inr (inr more) ↦ absurd (not_later text n m b a more)
]

pub broadcast_read : report_of (report_text broadcast_report) ≡ Ok broadcast_report
unfolding digits report_of pattern_at body_of frontier_at frontier_point_at joined_point_at schedule_at report_text
broadcast_read = refl

pub broadcast_valid : IsReport broadcast_report
broadcast_valid = let t = report_take (report_text broadcast_report) broadcast_report broadcast_read in t.valid

pub empty_fails : FailsFirstAt [] 1
unfolding report_text
empty_fails = grind (arith, broadcast_valid)
