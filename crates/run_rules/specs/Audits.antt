-- What the files decide of a report, and what is said of it. This project's own.
use Rattle.std.specs.Prelude.{ℕ, IsTrue, List, Result, Ok, Err}
use Rattle.outer_ports.specs.{declared.part.Part.Part, Files.{Files, candidate_word}, Shelf.FilesStay}
use Rattle.candidate_order.specs.declared.candidate.Candidate.{Candidate}
use Rattle.report_form.specs.Reports.{ReportValue, IsReport}
use Rattle.frontier_audit.specs.{declared.verdict.{AuditVerdict.AuditVerdict, Reason.Reason}, Denials.reason_number, Auditing.audit_of, Rights.IsRight}
use Rattle.frontier_audit.specs.declared.verdict.AuditVerdict.TheVariants as audit
use Rattle.run_rules.specs.{declared.status.Status.{Status, TheVariants.Denied}, Refusals.{Refusal, refusal_line}, Said.{FilesValue, Says, Stay}, Claims.IsVerdict}

-- a report that is denied is refused with the reason and the candidate
abbrev pub denial : Reason → Part → Candidate → Refusal
denial reason part x = record { status = Denied; code = reason_number reason; place = candidate_word part x.s x.r x.c }

-- the answer to a report that is audited over some files, which are those of the shelf where it tells them: what is denied is refused, and what is verified is right, and this is said of it; no file changed
pub record IsAudited (r : ReportValue) (Then : Status → List ℕ → Type 0) (files : FilesValue) (status : Status) (text : List ℕ) : Type 0 where
  pub valid : IsReport r
  pub over : Files
  pub are : IsTrue files.told → FilesStay files.before over
  pub denied : (reason : Reason) (part : Part) (x : Candidate) → IsVerdict r over (audit.Denied reason part x) → Says Denied (refusal_line (denial reason part x)) status text
  pub right : IsVerdict r over audit.Verified → IsRight r
  pub done : IsVerdict r over audit.Verified → Then status text
  pub stay : Stay files

-- ---- the same by the checks

abbrev pub not_denied : AuditVerdict → Result (Unit {0}) Refusal
not_denied audit.Verified = Ok tt
not_denied (audit.Denied reason part x) = Err (denial reason part x)

-- the audit of a report over these files
unfoldable pub audited : ReportValue → Files → Result (Unit {0}) Refusal
audited report files = not_denied (audit_of report files)
