-- What a record that refutes carried candidates says of the frontier that a search gave.
use Rattle.std.{proofs.{Common.{◌≡◌, true, false, List, All, Contains, sym, subst, ◌∙◌, ⊎_elim}, lemmas.{Bool.{false≢true, false_from_ne_true}, List.Elements.All-contains_itself}}, specs.List.Sorted.IsPermutation}
use Rattle.list_laws.proofs.Members.{Contains-map}
use Rattle.candidate_order.specs.{declared.candidate.Candidate.Candidate, Frontiers.{FrontierValue, PointValue, UnknownValue, IsTried, solved, given_up}}
use Rattle.engine_rules.specs.{declared.settled.Settled.{Settled, TheVariants.{Solved, Refuted, Unknown}}, Outcomes.RecordValue}
use Rattle.pareto_search.{specs.Recorded.entries_of, proofs.Entries.{solved_there, refuted_there, unknown_there}}
use Rattle.link_faults.{specs.Carrying.{is_carried, not_carried}, proofs.Recorded.{contains_kept, passes_kept}}
use Rattle.degraded_links.specs.Keeping.{RefutesCarried, unknown_not_refuted}

abbrev is_solved : Settled → Type 0
is_solved Solved = Unit {0}
is_solved Refuted = ⊥
is_solved Unknown = ⊥

module _ (f : FrontierValue) (entries : RecordValue) (same : IsPermutation entries (entries_of f)) where
  module _ (old : List Candidate) where
    pub searched_within : (inner : RecordValue) → inner ≡ not_carried old entries → (x : Candidate) → Contains f.refuted x → is_carried old x ≡ false → Contains inner (x, Refuted)
    searched_within inner kept x at other = subst (λ (es : RecordValue). Contains es (x, Refuted)) (sym kept) (contains_kept old x Refuted entries other (refuted_there f entries same x at))

    module _ (refutes : RefutesCarried old entries) where
      point_apart : (x : Candidate) → Contains (solved f) x → is_carried old x ≡ false
      point_apart x at = false_from_ne_true (is_carried old x) (λ carried. subst is_solved (refutes x Solved (solved_there f entries same x at) carried) tt)

      one_apart : (x : Candidate) → Contains (given_up f) x → is_carried old x ≡ false
      one_apart x at = false_from_ne_true (is_carried old x) (λ carried. unknown_not_refuted (refutes x Unknown (unknown_there f entries same x at) carried))

      pub points_apart : All (λ p. is_carried old p.candidate ≡ false) f.points
      points_apart = λ k d low. point_apart _ (Contains-map (λ (p : PointValue). p.candidate) f.points _ (All-contains_itself f.points k d low))

      pub unknown_apart : All (λ u. is_carried old u.candidate ≡ false) f.unknown
      unknown_apart = λ k d low. one_apart _ (Contains-map (λ (u : UnknownValue). u.candidate) f.unknown _ (All-contains_itself f.unknown k d low))

      pub carried_refuted : (x : Candidate) → IsTried f x → is_carried old x ≡ true → Contains f.refuted x
      carried_refuted x tried carried =
          ⊎_elim
          (λ (point : Contains (solved f) x). absurd (false≢true (sym (point_apart x point) ∙ carried)))
          (λ rest. ⊎_elim (λ (is : Contains f.refuted x). is) (λ (unknown : Contains (given_up f) x). absurd (false≢true (sym (one_apart x unknown) ∙ carried))) rest)
          tried

-- the engine within has no candidate that is carried
pub passed_by : (old : List Candidate) (entries inner : RecordValue) → inner ≡ not_carried old entries → (x : Candidate) (kind : Settled) → Contains inner (x, kind) → is_carried old x ≡ false
passed_by old entries inner kept x kind at = passes_kept old (x, kind) entries (subst (λ (es : RecordValue). Contains es (x, kind)) kept at)
