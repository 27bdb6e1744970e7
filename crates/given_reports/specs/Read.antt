-- What is read of a text, or the answer of its refusal, as the code has it.
use Rattle.std.specs.Prelude.{◌≡◌, Result, Ok}
use Rattle.report_form.specs.Reports.{ReportValue}
use Rattle.run_rules.specs.{Read.IsRefused, Refusals.Refusal}
use Rattle.given_reports.specs.declared.report_text.ReportText.{ReportText, TheVariants.{Spelled, Refused}}

-- the report that was read, or the answer of its refusal
abbrev pub IsReadAs : Result ReportValue Refusal → ReportText → Type 0
IsReadAs read (Spelled report) = read ≡ Ok report
IsReadAs read (Refused answer) = IsRefused read answer
