-- Which line is blamed, in words of the texts alone.
use Rattle.std.specs.Prelude.{◌≡◌, ℕ, ◌-◌, List, take}
use Rattle.text_lines.specs.Text.{rows_of}
use Rattle.report_form.specs.{Reports.{ReportValue, IsReport}, Spelling.report_text}

-- the first n lines of the text are those of the report's text
abbrev pub Agrees : ℕ → List ℕ → ReportValue → Type 0
Agrees n text r = take n (rows_of text) ≡ take n (rows_of (report_text r))

-- up to the line before it the text could still be a report's, and with line n it no longer can
pub record FailsFirstAt (text : List ℕ) (n : ℕ) : Type 0 where
  pub before : (r : ReportValue) × IsReport r × Agrees (n - 1) text r
  pub now : (r : ReportValue) → IsReport r → Agrees n text r → ⊥
