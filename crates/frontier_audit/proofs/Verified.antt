-- What a verified report says, and the verdict on a report from the answers of its checks.
use Rattle.std.proofs.{Common.{arith, ◌≡◌, Bool, get_or, Option, None, Some, append-nil, refl, sym, subst, IsTrue}, lemmas.List.Elements.All-contains_itself}
use Rattle.outer_ports.specs.{declared.part.Part.Part, Files.Files}
use Rattle.outer_ports.specs.declared.part.Part.TheVariants as part
use Rattle.collective_spec.specs.declared.kind.Kind.{Kind}
use Rattle.collective_spec.specs.declared.kind.Kind.TheVariants as kind
use Rattle.allreduce_join.specs.Joins.{Joins}
use Rattle.report_form.specs.Reports.{ReportValue, IsReport, parts_of, question_of}
use Rattle.candidate_formula.specs.Formulas.{formula_for}
use Rattle.proof_audit.specs.Files.{HasSpentLog}
use Rattle.frontier_audit.specs.{declared.verdict.AuditVerdict.{AuditVerdict, TheVariants.{Verified, Denied}}, Denials.{Denial}, Joining.joined_checked, Parts.{is_gather, is_reduce, points_of}, Auditing.audit_of}
use Rattle.frontier_audit.specs.{Rights.{AreJoined, HasLogs, IsRight}, Beside.{denial_of, AnswersBeside, IsVerdictOver}, inner.Steps.{joins_of, parts_checked, report_checked}}
use Rattle.frontier_audit.proofs.{Audited.shelf_right, Jointly.{joined_by_kind, one_part, parts_are}, Merging.{stops, then_plainly}, Parting.{named_denial, named_in}, Right.verified_joins, Unsolvable.all_right}

-- ---- a verified report is right

are_joined : (k : Kind) (r : ReportValue) → r.words.collective.kind ≡ k → IsReport r → (r.words.collective.kind ≡ kind.Allreduce → Joins r.topology.topology (points_of is_reduce r.frontiers) (points_of is_gather r.frontiers) r.joined) → AreJoined r r.frontiers
are_joined k r e ok joins = grind (arith, parts_are, one_part, append-nil, parts_of)

pub report_right : (r : ReportValue) (files : Files) → IsReport r → audit_of r files ≡ Verified → IsRight r
report_right r files ok e = record {
  valid = ok;
  parts = λ k d low. let x = get_or r.frontiers k d in all_right r files ok e x.0 x.1 (All-contains_itself r.frontiers k d low);
  joined = are_joined r.words.collective.kind r refl ok (verified_joins r files ok e);
}

pub report_logs : (r : ReportValue) (files : Files) → IsReport r → audit_of r files ≡ Verified → HasLogs r
report_logs r files ok e k d low i u at =
    let x = get_or r.frontiers k d in
    let frontier = ok.frontiers k d low in
    let unknown = frontier.unknown i u at in
    let log = (shelf_right r files ok e k d low).unknown i u at in
    subst (HasSpentLog (formula_for (question_of r.words r.topology x.0) (get_or x.1.unknown i u).candidate)) (sym unknown.conflicts) ∣ (log.lines, log.spent) ∣₁

-- ---- the verdict

abbrev pub verdict_of : Option (Part × Denial) → AuditVerdict
verdict_of None = Verified
verdict_of (Some (p, (reason, x))) = Denied reason p x

-- what the answer of the checks says of the report
pub record IsJudged (tells : Bool) (shelf : Files) (r : ReportValue) (v : AuditVerdict) : Type 0 where
  pub exact : IsTrue tells → v ≡ audit_of r shelf
  pub some : IsVerdictOver r v

module _ {tells : Bool} {shelf : Files} (r : ReportValue) where
  judged_by : {d : Option (Part × Denial)} (v : AuditVerdict) → v ≡ verdict_of d → AnswersBeside tells shelf (report_checked r) d → IsJudged tells shelf r v
  judged_by v is a = grind arith

  module _ {a : Option (Part × Denial)} (parts : AnswersBeside tells shelf (λ files. parts_checked r files r.frontiers) a) where
    pub judged_by_parts : (d : Part × Denial) → a ≡ Some d → (v : AuditVerdict) → v ≡ verdict_of (Some d) → IsJudged tells shelf r v
    judged_by_parts d e v is = judged_by v is (stops tells shelf (λ files. parts_checked r files r.frontiers) (λ files. joined_checked r r.frontiers) d (rw e at parts))

    pub judged_by_joins : a ≡ None → IsReport r → (d : Option Denial) → d ≡ denial_of (joins_of r.words.collective.kind r) → (v : AuditVerdict) → v ≡ verdict_of (named_in part.Joined d) → IsJudged tells shelf r v
    judged_by_joins e ok d said v is = grind (arith, judged_by, then_plainly, named_in, named_denial, joined_by_kind)
