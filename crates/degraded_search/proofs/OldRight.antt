-- What a right report refutes was refuted before a fault.
use Rattle.std.{proofs.{Common.{◌≡◌, ◌≢◌, List, [], ◌∷◌, map, refl, sym, subst, ◌∙◌, arith, All}, lemmas.List.{Concat.flat_map-cons, Elements.{All-append, All-cons, All-nil, recursion_from_All}}}, specs.List.{AllByRecursion, flat_map}}
use Rattle.outer_ports.specs.declared.part.Part.{Part, TheVariants.Whole}
use Rattle.collective_spec.specs.declared.kind.Kind.{Kind}
use Rattle.collective_spec.specs.declared.kind.Kind.TheVariants as kind
use Rattle.candidate_order.specs.{declared.candidate.Candidate.Candidate, Frontiers.{QuestionValue, FrontierValue, IsWithin, IsSolvable}, Ranges.IsLimits}
use Rattle.round_encoding.proofs.Obeyed.{all_map}
use Rattle.report_form.specs.Reports.{ReportValue, IsFrontier, IsReport, parts_of, question_of}
use Rattle.frontier_audit.specs.{Rights.IsRight, Parts.IsRightPart}
use Rattle.link_faults.specs.Carrying.{HasFewRounds, IsOldRefuted}
use Rattle.run_rules.specs.Degraded.{old_refuted}

-- ---- the one part

-- all but an allreduce have it
one_part : (k : Kind) → k ≢ kind.Allreduce → parts_of k ≡ Whole ∷ []
one_part kind.Allreduce single = absurd (single refl)
one_part _ single = refl

-- each frontier is of it
all_whole : (r : ReportValue) → IsReport r → r.words.collective.kind ≢ kind.Allreduce → All (λ (x : Part × FrontierValue). x.0 ≡ Whole) r.frontiers
all_whole r ok single =
    let parts : map (λ (x : Part × FrontierValue). x.0) r.frontiers ≡ Whole ∷ [] = ok.parts ∙ one_part r.words.collective.kind single in
    all_map (λ p. p ≡ Whole) (λ (x : Part × FrontierValue). x.0) r.frontiers (subst (All (λ p. p ≡ Whole)) (sym parts) (All-cons (λ p. p ≡ Whole) Whole [] refl (All-nil (λ p. p ≡ Whole))))

-- ---- its candidates

-- a candidate within the limits has few rounds
few_rounds : (q : QuestionValue) (x : Candidate) → IsLimits q.limits → IsWithin q x → HasFewRounds x
few_rounds q x limits within = omega (arith, limits.k, within.rounds)

all_flat : (P : Candidate → Type 0) (xs : List (Part × FrontierValue)) → AllByRecursion (λ x. All P x.1.refuted) xs → All P (flat_map (λ x. x.1.refuted) xs)
all_flat P [] all = All-nil P
all_flat P (x ∷ xs) all =
    subst (All P) (sym (flat_map-cons (λ (x : Part × FrontierValue). x.1.refuted) x xs)) (All-append P x.1.refuted (flat_map (λ x. x.1.refuted) xs) all.0 (all_flat P xs all.1))

module _ (r : ReportValue) (right : IsRight r) (single : r.words.collective.kind ≢ kind.Allreduce) where
  abbrev q : QuestionValue
  q = question_of r.words r.topology Whole

  in_part : (x : Part × FrontierValue) → x.0 ≡ Whole → IsFrontier (question_of r.words r.topology x.0) x.1 → IsRightPart r x → All (IsOldRefuted q) x.1.refuted
  in_part x is valid part =
      let within : All (IsWithin q) x.1.refuted = subst (λ p. All (IsWithin (question_of r.words r.topology p)) x.1.refuted) is valid.refuted in
      let none : All (λ y. IsSolvable q y → ⊥) x.1.refuted = subst (λ p. All (λ y. IsSolvable (question_of r.words r.topology p) y → ⊥) x.1.refuted) is part.refuted in
      λ k d low. record { few = few_rounds q _ right.valid.words.limits (within k d low); refuted = none k d low }

  pub old_right : All (IsOldRefuted q) (old_refuted r)
  old_right =
      all_flat (IsOldRefuted q) r.frontiers
      (recursion_from_All (λ (x : Part × FrontierValue). All (IsOldRefuted q) x.1.refuted) r.frontiers
      (λ k d low. in_part _ (all_whole r right.valid single k d low) (right.valid.frontiers k d low) (right.parts k d low)))
