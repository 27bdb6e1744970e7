-- What a function of the reader answers: what the checks give, seen by a view. This project's own.
use Rattle.std.specs.Prelude.{◌≡◌, ℕ, Result, Ok, Err}
use Rattle.report_form.specs.declared.fault.ReportCode.{ReportCode}
use Rattle.frontier_report.specs.declared.report_stop.ReportStop.{ReportStop, TheVariants.{Memory, Refused}}

-- a check failed where the checks say so; nothing is said where memory ran out
abbrev pub Halts : {Y : Type 0} → ReportStop → Result Y (ReportCode × ℕ) → Type 0
Halts Memory read = Unit {0}
Halts (Refused fault) read = read ≡ Err (fault.code, fault.line)

-- parts that take memory
abbrev pub Reads : {X Y : Type 0} → (X → Y) → Result X ReportStop → Result Y (ReportCode × ℕ) → Type 0
Reads view (Ok x) read = read ≡ Ok (view x)
Reads view (Err halt) read = Halts halt read
