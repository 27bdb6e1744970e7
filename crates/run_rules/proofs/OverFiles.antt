-- The files that an audit looked at.
use Rattle.std.proofs.Common.{◌≡◌, Bool, true, false, IsTrue, refl, sym}
use Rattle.outer_ports.specs.{Files.Files, Shelf.FilesStay}
use Rattle.report_form.specs.Reports.{ReportValue}
use Rattle.frontier_audit.specs.{declared.verdict.AuditVerdict.AuditVerdict, Auditing.audit_of, Beside.IsVerdictOver}

-- some files with this verdict, which are those of the shelf where it tells them
pub record HasVerdict (r : ReportValue) (verdict : AuditVerdict) (told : Bool) (shelf : Files) : Type 0 where
  pub over : Files
  pub are : IsTrue told → FilesStay shelf over
  pub is : audit_of r over ≡ verdict

pub has_verdict : (r : ReportValue) (verdict : AuditVerdict) (told : Bool) (shelf : Files) → (IsTrue told → verdict ≡ audit_of r shelf) → IsVerdictOver r verdict → HasVerdict r verdict told shelf
has_verdict r verdict true shelf exact some = record { over = shelf; are = λ _ name. refl; is = sym (exact refl) }
has_verdict r verdict false shelf exact some = record { over = some.files; are = λ told. absurd (cc); is = some.is }
