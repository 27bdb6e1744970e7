-- What is answered beside the files of a shelf.
use Rattle.std.specs.Prelude.{◌≡◌, Bool, Option, None, Some, Ok, Err, IsTrue}
use Rattle.outer_ports.specs.{Files.Files, Shelf.FilesStay}
use Rattle.report_form.specs.Reports.{ReportValue}
use Rattle.frontier_audit.specs.{declared.verdict.AuditVerdict.AuditVerdict, Denials.Checked, Auditing.audit_of}

-- what a check denies, if anything
abbrev pub denial_of : {E : Type 0} → Checked E → Option E
denial_of (Ok x) = None
denial_of (Err denial) = Some denial

-- the check of some files answers so; where the shelf tells its files, they are these
pub record AnswersBeside {E : Type 0} (tells : Bool) (shelf : Files) (check : Files → Checked E) (answer : Option E) : Type 0 where
  pub files : Files
  pub told : IsTrue tells → FilesStay shelf files
  pub is : answer ≡ denial_of (check files)

-- beside some files this is the verdict on the report
pub record IsVerdictOver (r : ReportValue) (verdict : AuditVerdict) : Type 0 where
  pub files : Files
  pub is : audit_of r files ≡ verdict
