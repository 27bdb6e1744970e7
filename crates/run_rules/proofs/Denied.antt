-- What an audit's answer says of its verdict.
use Rattle.std.{specs.Prelude.{IsTrue, codes}, proofs.Common.{◌≡◌, ℕ, List, [], ◌∷◌, Result, Ok, Err, get_or, refl, sym, subst, ap, ◌∙◌}}
use Rattle.text_lines.specs.Text.{line}
use Rattle.outer_ports.specs.{Files.Files, Shelf.FilesStay}
use Rattle.report_form.specs.Reports.{ReportValue, IsReport, question_of}
use Rattle.frontier_audit.{specs.{declared.verdict.AuditVerdict.AuditVerdict, Auditing.audit_of, Rights.{HasLogs, IsRight}, Shelves.ShelfRight}, proofs.Audited.shelf_right}
use Rattle.candidate_formula.specs.Formulas.{formula_for}
use Rattle.proof_audit.specs.Files.{HasSpentLog}
use Rattle.frontier_audit.specs.declared.verdict.AuditVerdict.TheVariants as audit
use Rattle.run_rules.specs.{declared.status.Status.{Status, TheVariants.{Done, Denied}}, Refusals.{Refusal, refusal_line}, Said.{FilesValue, Says, Stay}, Audits.{IsAudited, audited, denial, not_denied}, Steps.{verdict_status, verdict_text}}
use Rattle.run_rules.{specs.Claims.IsVerdict, proofs.OneVerdict.verdict_exactly}

denied_so : (v : AuditVerdict) (why : Refusal) → not_denied v ≡ Err why → why.status ≡ Denied
denied_so audit.Verified why e = absurd (cc)
denied_so (audit.Denied reason part x) why e = let same : denial reason part x ≡ why = cc in sym (ap (λ r. r.status) same)

-- what is denied is refused with that status
pub denied_by : (r : ReportValue) (files : Files) (why : Refusal) → audited r files ≡ Err why → why.status ≡ Denied
unfolding audited
denied_by r files why e = denied_so (audit_of r files) why e

-- what is not denied is verified
pub accepted_so : (v : AuditVerdict) → not_denied v ≡ Ok tt → v ≡ audit.Verified
accepted_so audit.Verified e = refl
accepted_so (audit.Denied reason part x) e = absurd (cc)

-- an audit that is done found nothing to deny
pub not_denied_done : (r : ReportValue) (files : Files) (status : Status) → status ≡ Done → ((why : Refusal) → audited r files ≡ Err why → status ≡ why.status) → audited r files ≡ Ok tt
not_denied_done r files status done denied = each (audited r files) refl
  where
    each : (y : Result (Unit {0}) Refusal) → audited r files ≡ y → audited r files ≡ Ok tt
    each (Ok u) e = e
    each (Err why) e = let clash : Done ≡ Denied = sym done ∙ denied why e ∙ denied_by r files why e in absurd (cc)

-- ---- the answer, by the checks

-- what is said of the verdict is said of what the checks come to, and the other way round
module _ (r : ReportValue) (Then : Status → List ℕ → Type 0) (files : FilesValue) (status : Status) (text : List ℕ) where
  module _ (answer : IsAudited r Then files status text) where
    pub denied_of : (why : Refusal) → audited r answer.over ≡ Err why → Says why.status (refusal_line why) status text
    unfolding audited
    denied_of why = each (audit_of r answer.over) refl
      where
        each : (v : AuditVerdict) → audit_of r answer.over ≡ v → not_denied v ≡ Err why → Says why.status (refusal_line why) status text
        each audit.Verified e refused = absurd (cc)
        each (audit.Denied reason part x) e refused =
            let same : denial reason part x ≡ why = cc in
            subst (λ w. Says w.status (refusal_line w) status text) same (answer.denied reason part x ((verdict_exactly r answer.over (audit.Denied reason part x) answer.valid).1 e))

    verified_of : audited r answer.over ≡ Ok tt → IsVerdict r answer.over audit.Verified
    unfolding audited
    verified_of e = (verdict_exactly r answer.over audit.Verified answer.valid).1 (accepted_so (audit_of r answer.over) e)

    pub done_of : audited r answer.over ≡ Ok tt → Then status text
    done_of e = answer.done (verified_of e)

    pub right_of : audited r answer.over ≡ Ok tt → IsRight r
    right_of e = answer.right (verified_of e)

    -- where it is done, nothing was denied
    pub accepted_of : status ≡ Done → audited r answer.over ≡ Ok tt
    accepted_of done = not_denied_done r answer.over status done (λ why e. (denied_of why e).status)

    pub shelf_of : status ≡ Done → ShelfRight r answer.over
    unfolding audited
    shelf_of done = shelf_right r answer.over answer.valid (accepted_so (audit_of r answer.over) (accepted_of done))

  pub audited_by : IsReport r → (over : Files) → (IsTrue files.told → FilesStay files.before over) → ((why : Refusal) → audited r over ≡ Err why → Says why.status (refusal_line why) status text)
      → (audited r over ≡ Ok tt → IsRight r × Then status text) → Stay files → IsAudited r Then files status text
  unfolding audited
  audited_by valid over are denied done stay = record {
    valid = valid;
    over = over;
    are = are;
    denied = λ reason part x is. denied (denial reason part x) (ap not_denied ((verdict_exactly r over (audit.Denied reason part x) valid).0 is));
    right = λ is. let both = done (ap not_denied ((verdict_exactly r over audit.Verified valid).0 is)) in both.0;
    done = λ is. let both = done (ap not_denied ((verdict_exactly r over audit.Verified valid).0 is)) in both.1;
    stay = stay;
  }

-- of a report that is audited for its own sake
module _ (r : ReportValue) (files : FilesValue) (status : Status) (text : List ℕ) (answer : IsAudited r (Says Done (line (codes "verified" ∷ []))) files status text) where
  pub right_where_done : status ≡ Done → IsRight r
  right_where_done done = right_of r (Says Done (line (codes "verified" ∷ []))) files status text answer (accepted_of r (Says Done (line (codes "verified" ∷ []))) files status text answer done)

  pub shelf_where_done : status ≡ Done → ShelfRight r answer.over
  shelf_where_done = shelf_of r (Says Done (line (codes "verified" ∷ []))) files status text answer

  pub logs_where_done : status ≡ Done → HasLogs r
  logs_where_done done k d low i u at =
      let x = get_or r.frontiers k d in
      let unknown = (answer.valid.frontiers k d low).unknown i u at in
      let log = (shelf_where_done done k d low).unknown i u at in
      subst (HasSpentLog (formula_for (question_of r.words r.topology x.0) (get_or x.1.unknown i u).candidate)) (sym unknown.conflicts) ∣ (log.lines, log.spent) ∣₁

  -- the status and the text are those of the verdict
  pub says_verdict : Says (verdict_status (audited r answer.over)) (verdict_text (audited r answer.over)) status text
  says_verdict = each (audited r answer.over) refl
    where
      each : (y : Result (Unit {0}) Refusal) → audited r answer.over ≡ y → Says (verdict_status (audited r answer.over)) (verdict_text (audited r answer.over)) status text
      each (Ok u) e = subst (λ v. Says (verdict_status v) (verdict_text v) status text) (sym e) (done_of r (Says Done (line (codes "verified" ∷ []))) files status text answer e)
      each (Err why) e = subst (λ v. Says (verdict_status v) (verdict_text v) status text) (sym e) (denied_of r (Says Done (line (codes "verified" ∷ []))) files status text answer why e)

-- what is said of a verdict is said of what it comes to
pub said_as : (x y : Result (Unit {0}) Refusal) (status : Status) (text : List ℕ) → x ≡ y → Says (verdict_status x) (verdict_text x) status text → Says (verdict_status y) (verdict_text y) status text
said_as x y status text e says = subst (λ v. Says (verdict_status v) (verdict_text v) status text) e says
