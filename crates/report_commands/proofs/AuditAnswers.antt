-- What answers an audit, from its verdict.
use Rattle.std.proofs.Common.{◌≡◌, ℕ, IsTrue, List, [], ◌∷◌, Ok, Err, sym, subst, ap, ◌∙◌, codes}
use Rattle.text_lines.specs.{Check.◌>>=◌, Text.line}
use Rattle.report_form.specs.Reports.{ReportValue, IsReport}
use Rattle.frontier_audit.specs.{declared.verdict.AuditVerdict.AuditVerdict, Auditing.audit_of, Beside.IsVerdictOver, Rights.IsRight}
use Rattle.frontier_audit.specs.declared.verdict.AuditVerdict.TheVariants as audit
use Rattle.run_rules.specs.{declared.status.Status.{Status, TheVariants.Done}, Tasks.{Audit, searchable}, Steps.{audit_in, verdict_status, verdict_text, whole_question}, Audits.{IsAudited, audited, not_denied}}
use Rattle.run_rules.{specs.Answers.{FilesValue, IsAnswer, Says, Stay}, proofs.{Denied.{accepted_so, audited_by, said_as}, OverFiles.{HasVerdict, has_verdict}}}

-- ---- a report whose search can be done is audited

pub can_audit : (r : ReportValue) → searchable (whole_question r.words r.topology) ≡ Ok tt → audit_in r ≡ Ok (Audit r)
can_audit r e = ap (λ x. x >>= (λ _. Ok (Audit r))) e

-- ---- the verdict

module _ (r : ReportValue) (files : FilesValue) (verdict : AuditVerdict) (status : Status) (text : List ℕ) (valid : IsReport r) (exact : IsTrue files.told → verdict ≡ audit_of r files.before) (some : IsVerdictOver r verdict)
    (right : verdict ≡ audit.Verified → IsRight r) (says : Says (verdict_status (not_denied verdict)) (verdict_text (not_denied verdict)) status text) (stay : Stay files) where
  abbrev Verifies : Status → List ℕ → Type 0
  Verifies = Says Done (line (codes "verified" ∷ []))

  audit_answered : HasVerdict r verdict files.told files.before → IsAudited r Verifies files status text
  unfolding audited
  audit_answered has = audited_by r Verifies files status text valid has.over has.are
      (λ why refused. said_as (not_denied verdict) (Err why) status text (sym (ap not_denied has.is) ∙ refused) says)
      (λ taken. let accepted : not_denied verdict ≡ Ok tt = sym (ap not_denied has.is) ∙ taken in (right (accepted_so verdict accepted), said_as (not_denied verdict) (Ok tt) status text accepted says))
      stay

  pub audit_answers : searchable (whole_question r.words r.topology) ≡ Ok tt → IsAnswer (audit_in r) files status text
  audit_answers can = subst (λ due. IsAnswer due files status text) (sym (can_audit r can)) (audit_answered (has_verdict r verdict files.told files.before exact some))
