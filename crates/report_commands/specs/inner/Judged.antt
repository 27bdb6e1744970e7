-- A report that was audited before its search is done anew. This project's own.
use Rattle.std.specs.Prelude.{◌≡◌, IsTrue}
use Rattle.outer_ports.specs.{Files.Files, Shelf.FilesStay}
use Rattle.report_form.specs.Reports.{ReportValue, IsReport}
use Rattle.frontier_audit.specs.{declared.verdict.AuditVerdict.AuditVerdict, Auditing.audit_of}
use Rattle.run_rules.specs.Said.{FilesValue, Stay}

-- over some files, which are those of the shelf where it tells them, this is the verdict on the report; no file changed
pub record IsJudged (r : ReportValue) (verdict : AuditVerdict) (files : FilesValue) : Type 0 where
  pub valid : IsReport r
  pub over : Files
  pub are : IsTrue files.told → FilesStay files.before over
  pub is : audit_of r over ≡ verdict
  pub stay : Stay files
