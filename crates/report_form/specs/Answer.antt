-- What a reader's answer says.
use Rattle.std.specs.Prelude.{◌≡◌, ℕ, Result, Ok, Err, ◌⊎◌}
use Rattle.report_form.specs.{declared.fault.{ReportCode.{ReportCode, TheVariants.{BadLine, Truncated, Limits, OutOfMemory}}, ReportFault.ReportFault}, Reports.ReportValue}

-- the numbers of the codes, by which refusals name them
abbrev pub report_number : ReportCode → ℕ
report_number BadLine = 1
report_number Truncated = 2
report_number Limits = 3
report_number OutOfMemory = 4

-- the answer is what the checks give, unless memory ran out
abbrev pub Answers : Result ReportValue ReportFault → Result ReportValue (ReportCode × ℕ) → Type 0
Answers (Ok r) read = read ≡ Ok r
Answers (Err fault) read = ((fault.code ≡ OutOfMemory) × (fault.line ≡ 0)) ⊎ (read ≡ Err (fault.code, fault.line))
