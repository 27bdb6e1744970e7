-- What a text is read as, by the checks and by its spelling.
use Rattle.std.proofs.Common.{◌≡◌, ℕ, ◌-◌, List, take, Result, Ok, Err, refl, sym, ap, ◌∙◌, slice_get}
use Rattle.text_lines.specs.Text.{rows_of}
use Rattle.report_form.{specs.{declared.fault.ReportCode.ReportCode, Reports.{ReportValue, IsReport}, Spelling.report_text, Reading.report_of, First.FailsFirstAt}, proofs.{Blamed.one_line, ReportTaken.report_take}}
use Rattle.report_laws.{specs.Shapes.{code_of, ReadsAs}, proofs.{ReportAgain.one_report, FirstBlamed.first_is_blamed, BlamedReport.code_is}}

-- what the checks give is what the spelling says
pub read_as : (text : List ℕ) (result : Result ReportValue (ReportCode × ℕ)) → report_of text ≡ result → ReadsAs text result
read_as text (Ok r) e = let t = report_take text r e in (t.valid, t.spelled)
read_as text (Err (why, n)) e = (first_is_blamed text why n e, code_is text why n e)

-- the checks read by the spelling
pub read_by_spelling : (text : List ℕ) → ReadsAs text (report_of text)
read_by_spelling text = read_as text (report_of text) refl

-- a report's text fails nowhere
spelled_fails : (text : List ℕ) (r : ReportValue) (n : ℕ) → IsReport r → text ≡ report_text r → FailsFirstAt text n → ⊥
spelled_fails text r n valid spelled fails = fails.now r valid (ap (λ t. take n (rows_of t)) spelled)

-- a text is read as one thing
pub one_reading : (text : List ℕ) (a b : Result ReportValue (ReportCode × ℕ)) → ReadsAs text a → ReadsAs text b → a ≡ b
one_reading text (Ok r) (Ok s) x y = ap (λ v. Ok v) (one_report r s x.0 y.0 (sym x.1 ∙ y.1))
one_reading text (Ok r) (Err (why, n)) x y = absurd (spelled_fails text r n x.0 x.1 y.0)
one_reading text (Err (why, n)) (Ok r) x y = absurd (spelled_fails text r n y.0 y.1 x.0)
one_reading text (Err (why, n)) (Err (other, m)) x y =
    let line : n ≡ m = one_line text n m x.0 y.0 in
    ap (λ c. Err (c, n)) (x.1 ∙ (ap (λ k. code_of (take (k - 1) (rows_of text)) (slice_get (rows_of text) (k - 1))) line ∙ sym y.1)) ∙ ap (λ k. Err (other, k)) line

pub only_read_as : (text : List ℕ) (result : Result ReportValue (ReportCode × ℕ)) → ReadsAs text result → report_of text ≡ result
only_read_as text result is = one_reading text (report_of text) result (read_by_spelling text) is
