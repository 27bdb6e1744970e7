-- What answers a fault, by the verdict on the report.
use Rattle.std.proofs.Common.{◌≡◌, ◌≢◌, ℕ, IsTrue, List, Ok, Err, refl, sym, ap, ◌∙◌}
use Rattle.report_form.specs.Reports.{ReportValue, IsReport}
use Rattle.frontier_audit.specs.{declared.verdict.AuditVerdict.AuditVerdict, Auditing.audit_of, Beside.IsVerdictOver, Rights.IsRight}
use Rattle.frontier_audit.specs.declared.verdict.AuditVerdict.TheVariants as audit
use Rattle.run_rules.specs.{declared.status.Status.Status, Audits.{IsAudited, audited, not_denied}, Steps.{verdict_status, verdict_text}, Degraded.IsNewSearch, Said.{FilesValue, Says, Stay}}
use Rattle.run_rules.proofs.{OverFiles.{HasVerdict, has_verdict}, Denied.{audited_by, said_as}}
use Rattle.report_commands.specs.inner.Judged.{IsJudged}

-- by what an audit says of its verdict
pub judged : (r : ReportValue) (verdict : AuditVerdict) (files : FilesValue) → IsReport r → (IsTrue files.told → verdict ≡ audit_of r files.before) → IsVerdictOver r verdict → Stay files → IsJudged r verdict files
judged r verdict files valid exact some stay =
    let has : HasVerdict r verdict files.told files.before = has_verdict r verdict files.told files.before exact some in
    record { valid = valid; over = has.over; are = has.are; is = has.is; stay = stay }

module _ (r : ReportValue) (group width : ℕ) (verdict : AuditVerdict) (files : FilesValue) (is : IsJudged r verdict files) (status : Status) (text : List ℕ) where
  -- the audit over these files
  over_is : audited r is.over ≡ not_denied verdict
  unfolding audited
  over_is = ap not_denied is.is

  pub searched_anew : verdict ≡ audit.Verified → IsRight r → IsNewSearch r group width status text → IsAudited r (IsNewSearch r group width) files status text
  searched_anew verified right search = audited_by r (IsNewSearch r group width) files status text is.valid is.over is.are
      (λ why refused. let impossible : Ok tt ≡ Err why = sym (ap not_denied verified) ∙ (sym over_is ∙ refused) in absurd (cc)) (λ _. (right, search)) is.stay

  is_refusal : (told : AuditVerdict) → told ≢ audit.Verified → not_denied told ≡ Ok tt → ⊥
  is_refusal audit.Verified denied taken = denied refl
  is_refusal (audit.Denied reason part x) denied taken = absurd (cc)

  pub told_denied : verdict ≢ audit.Verified → Says (verdict_status (not_denied verdict)) (verdict_text (not_denied verdict)) status text → IsAudited r (IsNewSearch r group width) files status text
  told_denied denied says = audited_by r (IsNewSearch r group width) files status text is.valid is.over is.are
      (λ why refused. said_as (not_denied verdict) (Err why) status text (sym over_is ∙ refused) says) (λ taken. absurd (is_refusal verdict denied (sym over_is ∙ taken))) is.stay
