-- What is read of the text of a report, as the code has it.
use Rattle.std.proofs.Common.{◌≡◌, ◌≢◌, ◌⊎◌, inl, inr, ℕ, List, Err, ap}
use Rattle.report_form.specs.{declared.fault.ReportCode.{ReportCode, TheVariants.OutOfMemory}, Answer.report_number, Reading.report_of}
use Rattle.run_rules.specs.{declared.status.Status.TheVariants.BadReport, Refusals.{refused_at, refused_as}, Tasks.read_report}

-- what the reader refuses is refused
pub read_refused : (bytes : List ℕ) (code : ReportCode) (line : ℕ) → ((code ≡ OutOfMemory) × (line ≡ 0)) ⊎ (report_of bytes ≡ Err (code, line)) → code ≢ OutOfMemory
    → read_report bytes ≡ Err (refused_at BadReport (report_number code) line)
read_refused bytes code line (inl memory) other = absurd (other memory.0)
read_refused bytes code line (inr e) other = ap (refused_as BadReport report_number) e
