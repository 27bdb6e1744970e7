-- The line that is blamed is the first at which the text can no longer be a report's.
use Rattle.std.proofs.Common.{◌≡◌, ℕ, ◌-◌, List, take, Err, refl, sym, ap, ◌∙◌}
use Rattle.text_lines.{specs.Text.{rows_of, start}, proofs.Gives.cut_agrees}
use Rattle.report_form.{specs.{declared.fault.ReportCode.ReportCode, Spelling.report_lines, Reading.report_of, First.FailsFirstAt}, proofs.ReportTaken.{report_is, report_gives}}
use Rattle.report_laws.proofs.{SpelledTokens.rows_of_report, LocalReport.none_agrees}

pub first_is_blamed : (text : List ℕ) (why : ReportCode) (n : ℕ) → report_of text ≡ Err (why, n) → FailsFirstAt text n
first_is_blamed text why n failed =
    let s = (report_gives (rows_of text) (start text)).err (why, n) (sym (report_is text) ∙ failed) in
    record { before = (s.value, s.valid, cut_agrees (report_lines s.value) (start text) n refl s.cut ∙ ap (take (n - 1)) (sym (rows_of_report s.value s.valid))); now = none_agrees text why n failed }
