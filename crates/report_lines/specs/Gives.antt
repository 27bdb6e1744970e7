-- What a check of a line answers: what the definition gives, seen by a view. This project's own.
use Rattle.std.specs.Prelude.{◌≡◌, ℕ, Result, Ok, Err}
use Rattle.report_form.specs.declared.fault.{ReportCode.ReportCode, ReportFault.ReportFault}

-- checks that tell the line
abbrev pub TellsAt : {X Y : Type 0} → (X → Y) → Result X ReportFault → Result Y (ReportCode × ℕ) → Type 0
TellsAt view (Ok x) read = read ≡ Ok (view x)
TellsAt view (Err fault) read = read ≡ Err (fault.code, fault.line)
