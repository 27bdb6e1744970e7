-- What a search with an engine found for what copies, and for the collective in whose place that was searched.
use Rattle.std.{proofs.{Common.{◌≡◌, ◌∙◌, Bool, true, false, List, [], ◌∷◌, ◌++◌, map, All, Contains, Option, refl, sym, ap, subst, if◌then◌else◌}, lemmas.List.Elements.{All-contains, All-map, All-weaker}}, specs.List.Sorted.IsPermutation}
use Rattle.list_laws.proofs.Each.{all_contained}
use Rattle.schedule.{specs.{Sends.ScheduleValue, Inverse.inverse_of}, proofs.Inverting.inverse_inverse}
use Rattle.collective_spec.specs.{declared.spec.Spec.Spec, Collectives.{IsSpec, adds_up}}
use Rattle.cnf_formula.specs.Formulas.{FormulaValue}
use Rattle.proof_rules.specs.Refuting.{Exhausted}
use Rattle.candidate_order.specs.{declared.candidate.Candidate.Candidate, Copied.{copied_question, copied_spec}}
use Rattle.candidate_order.specs.Frontiers.{QuestionValue, FrontierValue, PointValue, UnknownValue, IsPoint, IsUnknown, IsWithin, RightFrontier, Searched, given_up}
use Rattle.engine_rules.specs.{declared.settled.Settled.TheVariants.{Solved, Refuted, Unknown}, Outcomes.RecordValue}
use Rattle.inversion.{specs.Inverted.{inverted_frontier, inverted_point}, proofs.Reducing.{reduction_right, reduction_searched}}
use Rattle.pareto_search.{specs.Recorded.{StaysWithin, entries_of}, proofs.Entries.with}
use Rattle.candidate_formula.specs.Searched.{copying_schedule, searched_question}
use Rattle.engine_search.{specs.{Searched.asked_frontier, Found.IsFoundBy}, proofs.{Searched.{searched_itself, searched_turned, within_alike}, Recorded.{each_unknown, refuted_within}}}

module _ (formula : Candidate → FormulaValue) (suits : Candidate → ScheduleValue → Type 0) where
  -- ---- what copies, as the engine has it

  suits_copied : (q : QuestionValue) (p : PointValue) → adds_up q.spec ≡ false → suits p.candidate p.schedule → suits p.candidate (copying_schedule q.spec p.schedule)
  suits_copied q p copies suited = subst (λ b. suits p.candidate (if b then inverse_of p.schedule else p.schedule)) (sym copies) suited

  copied_suits : (q : QuestionValue) (p : PointValue) → adds_up q.spec ≡ false → suits p.candidate (copying_schedule q.spec p.schedule) → suits p.candidate p.schedule
  copied_suits q p copies suited = subst (λ b. suits p.candidate (if b then inverse_of p.schedule else p.schedule)) copies suited

  pub found_copied : {f : FrontierValue} {own now : QuestionValue} {entries : RecordValue} {stopped : Option Candidate}
      → RightFrontier own f → Searched own f → All (λ (p : PointValue). suits p.candidate p.schedule) f.points → IsPermutation entries (entries_of f) → StaysWithin own entries stopped → now ≡ own → adds_up now.spec ≡ false
      → ((x : Candidate) → Contains entries (x, Unknown) → Exhausted (formula x) now.limits.conflicts) → IsFoundBy own formula suits f
  found_copied {f} {own} {now} {entries} {stopped} right searched suited permuted stays same copies exhausted = record {
    right = right;
    searched = searched;
    within = refuted_within f entries permuted own stopped stays;
    exhausted = all_contained (λ (u : UnknownValue). Exhausted (formula u.candidate) u.conflicts) f.unknown (λ u at.
        let told : u.conflicts ≡ own.limits.conflicts = (All-contains (IsUnknown own) f.unknown u right.unknown at).conflicts in
        let spent : Exhausted (formula u.candidate) now.limits.conflicts = All-contains (λ (v : UnknownValue). Exhausted (formula v.candidate) now.limits.conflicts) f.unknown u (each_unknown f entries permuted (λ x. Exhausted (formula x) now.limits.conflicts) exhausted) at in
        subst (Exhausted (formula u.candidate)) (sym (told ∙ ap (λ (q : QuestionValue). q.limits.conflicts) (sym same))) spent);
    suited = All-weaker (λ (p : PointValue). suits p.candidate p.schedule) (λ (p : PointValue). suits p.candidate (copying_schedule own.spec p.schedule)) (λ p has. suits_copied own p (subst (λ (q : QuestionValue). adds_up q.spec ≡ false) same copies) has) f.points suited;
  }

  -- ---- a reduction is the inverse of what is searched

  module _ (q : QuestionValue) (adds : adds_up q.spec ≡ true) (copies : adds_up (copied_spec q.spec) ≡ false) where
    point_inverted : (refuted : List Candidate) (a : PointValue) → IsPoint (copied_question q) refuted a → suits a.candidate (copying_schedule (copied_spec q.spec) a.schedule) → suits a.candidate (copying_schedule q.spec (inverse_of a.schedule))
    point_inverted refuted a point suited =
        let here : suits a.candidate a.schedule = copied_suits (copied_question q) a copies suited in
        subst (λ b. suits a.candidate (if b then inverse_of (inverse_of a.schedule) else inverse_of a.schedule)) (sym adds) (subst (suits a.candidate) (sym (inverse_inverse a.schedule point.solves.valid)) here)

    found_inverted : (f : FrontierValue) → IsSpec q.topology.nodes q.spec → IsFoundBy (copied_question q) formula suits f → IsFoundBy q formula suits (inverted_frontier f)
    found_inverted f fits found = record {
      right = reduction_right q f adds fits found.right found.searched;
      searched = reduction_searched q f adds fits found.right found.searched;
      within = All-weaker (IsWithin (copied_question q)) (IsWithin q) (λ x within. (within_alike q x).0 (subst (λ p. IsWithin p x) (sym (searched_turned q adds)) within)) f.refuted found.within;
      exhausted = found.exhausted;
      suited = All-map (λ (p : PointValue). suits p.candidate (copying_schedule q.spec p.schedule)) inverted_point f.points (λ k d low. point_inverted f.refuted _ (found.right.points k d low) (found.suited k d low));
    }

  -- ---- as the code has it

  module _ (q : QuestionValue) (fits : IsSpec q.topology.nodes q.spec) (own : QuestionValue) (same : own ≡ searched_question q) (copies : adds_up own.spec ≡ false) where
    found_in_place : (b : Bool) → adds_up q.spec ≡ b → (f : FrontierValue) → IsFoundBy own formula suits f → IsFoundBy q formula suits (asked_frontier q.spec f)
    found_in_place true adds f found =
        let turned : own ≡ copied_question q = same ∙ searched_turned q adds in
        let inverted : IsFoundBy q formula suits (inverted_frontier f) = found_inverted q adds (subst (λ (x : QuestionValue). adds_up x.spec ≡ false) turned copies) f fits (subst (λ x. IsFoundBy x formula suits f) turned found) in
        subst (λ b. IsFoundBy q formula suits (if b then inverted_frontier f else f)) (sym adds) inverted
    found_in_place false plain f found =
        let itself : IsFoundBy q formula suits f = subst (λ x. IsFoundBy x formula suits f) (same ∙ searched_itself q plain) found in
        subst (λ b. IsFoundBy q formula suits (if b then inverted_frontier f else f)) (sym plain) itself

    pub found_as_asked : {f g : FrontierValue} → g ≡ asked_frontier q.spec f → IsFoundBy own formula suits f → IsFoundBy q formula suits g
    found_as_asked {f} {g} is found = subst (IsFoundBy q formula suits) (sym is) (found_in_place (adds_up q.spec) refl f found)

-- ---- inverting keeps the candidates

same_candidates : (points : List PointValue) → map (λ (p : PointValue). p.candidate) (map inverted_point points) ≡ map (λ (p : PointValue). p.candidate) points
same_candidates [] = refl
same_candidates (p ∷ points) = ap (λ xs. p.candidate ∷ xs) (same_candidates points)

entries_inverted : (f : FrontierValue) → entries_of (inverted_frontier f) ≡ entries_of f
entries_inverted f = ap (λ xs. map (with Solved) xs ++ map (with Refuted) f.refuted ++ map (with Unknown) (given_up f)) (same_candidates f.points)

same_entries : (b : Bool) (f : FrontierValue) → entries_of (if b then inverted_frontier f else f) ≡ entries_of f
same_entries true f = entries_inverted f
same_entries false f = refl

pub recorded_as_asked : {g : FrontierValue} {entries : RecordValue} (spec : Spec) (f : FrontierValue) → g ≡ asked_frontier spec f → IsPermutation entries (entries_of f) → IsPermutation entries (entries_of g)
recorded_as_asked {g} {entries} spec f is permuted = subst (IsPermutation entries) (sym (ap entries_of is ∙ same_entries (adds_up spec) f)) permuted

-- ---- as a caller says it: by another formula that is the same, and by what the engine promises or less

pub found_with : {q : QuestionValue} {f : FrontierValue} (formula said : Candidate → FormulaValue) (suits promised : Candidate → ScheduleValue → Type 0) → ((x : Candidate) → formula x ≡ said x) → ((x : Candidate) (s : ScheduleValue) → suits x s → promised x s)
    → IsFoundBy q formula suits f → IsFoundBy q said promised f
found_with {q} {f} formula said suits promised same weaker found = record {
  right = found.right;
  searched = found.searched;
  within = found.within;
  exhausted = All-weaker (λ (u : UnknownValue). Exhausted (formula u.candidate) u.conflicts) (λ (u : UnknownValue). Exhausted (said u.candidate) u.conflicts) (λ u spent. subst (λ x. Exhausted x u.conflicts) (same u.candidate) spent) f.unknown found.exhausted;
  suited = All-weaker (λ (p : PointValue). suits p.candidate (copying_schedule q.spec p.schedule)) (λ (p : PointValue). promised p.candidate (copying_schedule q.spec p.schedule)) (λ p has. weaker p.candidate (copying_schedule q.spec p.schedule) has) f.points found.suited;
}
