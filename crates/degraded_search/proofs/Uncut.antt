-- What a search over the links that a fault left has cut away.
use Rattle.std.{proofs.{Common.{◌≡◌, true, false, List, All, Contains, sym, ap, subst, ◌∙◌}, lemmas.{Bool.false_from_ne_true, List.Elements.{All-contains, All-weaker}}}, specs.{List.Sorted.IsPermutation, Option.is_some}}
use Rattle.list_laws.proofs.{Each.all_contained, Members.Contains-map}
use Rattle.candidate_order.specs.{declared.candidate.Candidate.Candidate, Frontiers.{QuestionValue, FrontierValue, UnknownValue}}
use Rattle.engine_rules.specs.{declared.settled.Settled.{Settled, TheVariants.{Refuted, Unknown}}, Outcomes.RecordValue}
use Rattle.pareto_search.{specs.Recorded.entries_of, proofs.Entries.unknown_there}
use Rattle.node_cuts.specs.{declared.sets.Sets.Sets, Cutting.{is_cut, sets_for}}
use Rattle.cut_bounds.proofs.Turned.{cut_same}
use Rattle.candidate_formula.specs.{Formulas.searched_on, Pruned.is_cut_away, Searched.searched_question}
use Rattle.link_faults.{specs.Carrying.{is_carried, not_carried}, proofs.Recorded.contains_kept}
use Rattle.degraded_links.specs.Keeping.{unknown_not_refuted}

-- ---- what was given up

-- what no old candidate carries was left to the engine that cuts, so it is not cut
module _ (f : FrontierValue) (entries inner : RecordValue) (same : IsPermutation entries (entries_of f)) (old : List Candidate) (kept : inner ≡ not_carried old entries) where
  at_the_inner : (u : UnknownValue) → Contains f.unknown u → is_carried old u.candidate ≡ false → Contains inner (u.candidate, Unknown)
  at_the_inner u at other =
      subst (λ (es : RecordValue). Contains es (u.candidate, Unknown)) (sym kept)
      (contains_kept old u.candidate Unknown entries other (unknown_there f entries same u.candidate (Contains-map (λ (v : UnknownValue). v.candidate) f.unknown u at)))

  pub given_up_uncut : (sets : Sets) (q : QuestionValue) → All (λ (u : UnknownValue). is_carried old u.candidate ≡ false) f.unknown → ((x : Candidate) (kind : Settled) → Contains inner (x, kind) → is_cut sets q x ≡ true → kind ≡ Refuted)
      → All (λ (u : UnknownValue). is_cut sets q u.candidate ≡ false) f.unknown
  given_up_uncut sets q apart refuted =
      all_contained (λ (u : UnknownValue). is_cut sets q u.candidate ≡ false) f.unknown (λ u at.
      let here = at_the_inner u at (All-contains (λ (v : UnknownValue). is_carried old v.candidate ≡ false) f.unknown u apart at) in
      false_from_ne_true (is_cut sets q u.candidate) (λ cut. unknown_not_refuted (refuted u.candidate Unknown here cut)))

-- ---- as it is asked

module _ (q : QuestionValue) where
  -- what is searched is cut where what is asked for is cut away
  searched_cut : (x : Candidate) → is_cut (sets_for q.limits.pruning) (searched_question q) x ≡ is_cut_away q x
  searched_cut x = ap is_some (cut_same (sets_for q.limits.pruning) (searched_on q) q.spec x)

  -- as the code has it: by the sets and the question of the engine that cuts
  pub none_cut_away : (f : FrontierValue) {own : QuestionValue} {sets : Sets} → own ≡ searched_question q → sets ≡ sets_for q.limits.pruning
      → All (λ (u : UnknownValue). is_cut sets own u.candidate ≡ false) f.unknown → All (λ (u : UnknownValue). is_cut_away q u.candidate ≡ false) f.unknown
  none_cut_away f {own} {sets} in_place are uncut =
      All-weaker (λ (u : UnknownValue). is_cut sets own u.candidate ≡ false) (λ (u : UnknownValue). is_cut_away q u.candidate ≡ false)
      (λ u none. sym (searched_cut u.candidate) ∙ (sym (ap (λ s. is_cut s (searched_question q) u.candidate) are) ∙ (sym (ap (λ p. is_cut sets p u.candidate) in_place) ∙ none)))
      f.unknown uncut
