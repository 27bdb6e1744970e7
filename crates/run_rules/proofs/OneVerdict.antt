-- A report and its files have one verdict.
use Rattle.std.proofs.Common.{◌≡◌, ◌↔◌, List, [], ◌∷◌, inl, inr, sym, ap, ◌∙◌, subst, not, filter}
use Rattle.outer_ports.specs.{declared.part.Part.Part, Files.Files}
use Rattle.outer_ports.specs.declared.part.Part.TheVariants as part
use Rattle.schedule.specs.Links.{TopologyValue}
use Rattle.candidate_order.{specs.{declared.candidate.Candidate.Candidate, Frontiers.{QuestionValue, PointValue, FrontierValue, IsSolvedBy, IsPoint}}, proofs.Orders.{Before-total, has_chunk}}
use Rattle.candidate_formula.specs.Pruned.{is_cut_away}
use Rattle.report_form.specs.Reports.{ReportValue, IsReport, question_of}
use Rattle.frontier_audit.specs.{declared.verdict.{AuditVerdict.{AuditVerdict, TheVariants.Denied}, Reason.TheVariants.{ScheduleWrong, MarkWrong, CandidateMissing}}, Auditing.audit_of}
use Rattle.run_rules.{specs.Claims.{Saying, Claim, Each, RefutationClaim, LogClaim, IsFirstMissing, AnswerClaim, FrontierClaim, JoinsClaim, JoinedClaim, IsVerdict}, proofs.Claimed.audit_decides}

-- it is said of one verdict at most
abbrev IsOfOne : Saying → Type 0
IsOfOne R = (v w : AuditVerdict) → R v → R w → v ≡ w

one_claim : (Holds : Type 0) (denial : AuditVerdict) (Rest : Saying) → IsOfOne Rest → IsOfOne (Claim Holds denial Rest)
one_claim Holds denial Rest one v w (inl a) (inl b) = one v w a.1 b.1
one_claim Holds denial Rest one v w (inl a) (inr b) = absurd (b.0 a.0)
one_claim Holds denial Rest one v w (inr a) (inl b) = absurd (a.0 b.0)
one_claim Holds denial Rest one v w (inr a) (inr b) = a.1 ∙ sym b.1

one_each : {X : Type 0} (Claimed : X → Saying → Saying) → ((x : X) (Rest : Saying) → IsOfOne Rest → IsOfOne (Claimed x Rest)) → (xs : List X) (Rest : Saying) → IsOfOne Rest → IsOfOne (Each Claimed xs Rest)
one_each Claimed each [] Rest one = one
one_each Claimed each (x ∷ xs) Rest one = each x (Each Claimed xs Rest) (one_each Claimed each xs Rest one)

one_missing : (q : QuestionValue) (f : FrontierValue) (x y : Candidate) → IsFirstMissing q f x → IsFirstMissing q f y → x ≡ y
one_missing q f x y a b = elim (Before-total x y (has_chunk q x a.within) (has_chunk q y b.within)) [
  | inl before ↦ absurd (a.missing (b.first x a.within before))
  | inr (inl same) ↦ same
  | inr (inr before) ↦ absurd (b.missing (a.first y b.within before))
]

module _ (part : Part) (q : QuestionValue) (files : Files) (f : FrontierValue) where
  one_answer : (Rest : Saying) → IsOfOne Rest → IsOfOne (AnswerClaim part q f Rest)
  one_answer Rest one v w (inl a) (inl b) = one v w a.1 b.1
  one_answer Rest one v w (inl a) (inr b) = absurd (b.1.0.missing (a.0 b.0 b.1.0.within))
  one_answer Rest one v w (inr a) (inl b) = absurd (a.1.0.missing (b.0 a.0 a.1.0.within))
  one_answer Rest one v w (inr a) (inr b) = a.1.1 ∙ ap (λ x. Denied CandidateMissing part x) (one_missing q f a.0 b.0 a.1.0 b.1.0) ∙ sym b.1.1

  one_frontier : (Rest : Saying) → IsOfOne Rest → IsOfOne (FrontierClaim part q files f Rest)
  one_frontier Rest one =
      one_each (λ p. Claim (IsSolvedBy q p.candidate p.schedule) (Denied ScheduleWrong part p.candidate)) (λ p. one_claim (IsSolvedBy q p.candidate p.schedule) (Denied ScheduleWrong part p.candidate)) f.points _
      (one_each (RefutationClaim part q files) (λ x rest h. one_claim _ _ _ (one_claim _ _ _ (one_claim _ _ _ (one_claim _ _ rest h)))) (filter (λ x. not (is_cut_away q x)) f.refuted) _
      (one_each (LogClaim part q files) (λ u rest h. one_claim _ _ _ (one_claim _ _ rest h)) f.unknown _
      (one_answer _
      (one_each (λ p. Claim (IsPoint q f.refuted p) (Denied MarkWrong part p.candidate)) (λ p. one_claim (IsPoint q f.refuted p) (Denied MarkWrong part p.candidate)) f.points Rest one))))

one_joins : (t : TopologyValue) (pairs : List (PointValue × PointValue)) (ps : List PointValue) → IsOfOne (JoinsClaim t pairs ps)
one_joins t [] [] v w a b = a ∙ sym b
one_joins t [] (p ∷ ps) v w a b = a ∙ sym b
one_joins t (pair ∷ pairs) [] v w a b = a ∙ sym b
one_joins t (pair ∷ pairs) (p ∷ ps) v w a b = one_claim _ _ (JoinsClaim t pairs ps) (one_joins t pairs ps) v w a b

one_joined : (r : ReportValue) (xs : List (Part × FrontierValue)) → IsOfOne (JoinedClaim r xs)
one_joined r ((part.Reduce, f) ∷ (part.Gather, h) ∷ []) v w a b = one_joins r.topology.topology _ r.joined v w a b
one_joined r _ v w a b = a ∙ sym b

pub one_verdict : (r : ReportValue) (files : Files) (v w : AuditVerdict) → IsVerdict r files v → IsVerdict r files w → v ≡ w
one_verdict r files =
    one_each (λ x. FrontierClaim x.0 (question_of r.words r.topology x.0) files x.1) (λ x. one_frontier x.0 (question_of r.words r.topology x.0) files x.1)
    r.frontiers (JoinedClaim r r.frontiers) (one_joined r r.frontiers)

pub verdict_exactly : (r : ReportValue) (files : Files) (v : AuditVerdict) → IsReport r → IsVerdict r files v ↔ (audit_of r files ≡ v)
verdict_exactly r files v ok = (λ h. one_verdict r files (audit_of r files) v (audit_decides r files ok) h, λ e. subst (IsVerdict r files) e (audit_decides r files ok))
