-- What an engine's record says of the frontier that its search gave.
use Rattle.std.proofs.{Common.{◌≡◌, inl, inr, List, ◌++◌, map, All, Contains, Option, refl, sym, ap, subst}, lemmas.List.{Elements.{All-contains, All-map, Contains-append_cases}, Sorted.Contains-permutation}}
use Rattle.std.specs.List.Sorted.{IsPermutation}
use Rattle.list_laws.proofs.{Each.all_contained, Members.Contains-map}
use Rattle.candidate_order.specs.{declared.candidate.Candidate.Candidate, Frontiers.{QuestionValue, FrontierValue, UnknownValue, IsTried, IsWithin, solved, given_up}}
use Rattle.engine_rules.specs.{declared.settled.Settled.{Settled, TheVariants.{Solved, Refuted, Unknown}}, Outcomes.RecordValue}
use Rattle.pareto_search.{specs.Recorded.{StaysWithin, entries_of}, proofs.Entries.{with, unknown_there, refuted_there}}

-- what a mapped list contains comes from what is mapped
record ComesFrom {X Y : Type 0} (g : X → Y) (xs : List X) (y : Y) : Type 0 where
  pub source : X
  pub there : Contains xs source
  pub is : y ≡ g source

comes_from : {X Y : Type 0} (g : X → Y) (xs : List X) (y : Y) → Contains (map g xs) y → ComesFrom g xs y
comes_from g xs y at = All-contains (ComesFrom g xs) (map g xs) y (All-map (ComesFrom g xs) g xs (all_contained (λ x. ComesFrom g xs (g x)) xs (λ x there. record { source = x; there = there; is = refl }))) at

-- ---- the three lists in the record

in_list : (kind : Settled) (xs : List Candidate) (x : Candidate) (k : Settled) → Contains (map (with kind) xs) (with k x) → Contains xs x
in_list kind xs x k at =
    let from = comes_from (with kind) xs (with k x) at in
    subst (Contains xs) (sym (ap (λ (e : Candidate × Settled). e.0) from.is)) from.there

entry_tried : (f : FrontierValue) (x : Candidate) (kind : Settled) → Contains (entries_of f) (with kind x) → IsTried f x
entry_tried f x kind at = elim (Contains-append_cases (map (with Solved) (solved f) ++ map (with Refuted) f.refuted) (map (with Unknown) (given_up f)) (with kind x) at) [
  | inl sooner ↦ elim (Contains-append_cases (map (with Solved) (solved f)) (map (with Refuted) f.refuted) (with kind x) sooner) [
    | inl first ↦ inl (in_list Solved (solved f) x kind first)
    | inr second ↦ inr (inl (in_list Refuted f.refuted x kind second))
  ]
  | inr third ↦ inr (inr (in_list Unknown (given_up f) x kind third))
]

entry_refuted : (f : FrontierValue) (x : Candidate) → Contains (entries_of f) (with Refuted x) → Contains f.refuted x
entry_refuted f x at = elim (Contains-append_cases (map (with Solved) (solved f) ++ map (with Refuted) f.refuted) (map (with Unknown) (given_up f)) (with Refuted x) at) [
  | inl sooner ↦ elim (Contains-append_cases (map (with Solved) (solved f)) (map (with Refuted) f.refuted) (with Refuted x) sooner) [
    | inl first ↦ let from = comes_from (with Solved) (solved f) (with Refuted x) first in let other : Refuted ≡ Solved = ap (λ (e : Candidate × Settled). e.1) from.is in absurd (cc)
    | inr second ↦ in_list Refuted f.refuted x Refuted second
  ]
  | inr third ↦ let from = comes_from (with Unknown) (given_up f) (with Refuted x) third in let other : Refuted ≡ Unknown = ap (λ (e : Candidate × Settled). e.1) from.is in absurd (cc)
]

module _ (f : FrontierValue) (entries : RecordValue) (same : IsPermutation entries (entries_of f)) where
  pub was_tried : (x : Candidate) (kind : Settled) → Contains entries (with kind x) → IsTried f x
  was_tried x kind at = entry_tried f x kind (Contains-permutation entries (entries_of f) (with kind x) same at)

  pub was_refuted : (x : Candidate) → Contains entries (with Refuted x) → Contains f.refuted x
  was_refuted x at = entry_refuted f x (Contains-permutation entries (entries_of f) (with Refuted x) same at)

  -- what holds of each entry of a kind holds of all that the list has
  pub each_unknown : (P : Candidate → Type 0) → ((x : Candidate) → Contains entries (with Unknown x) → P x) → All (λ (u : UnknownValue). P u.candidate) f.unknown
  each_unknown P holds = all_contained (λ (u : UnknownValue). P u.candidate) f.unknown (λ u at. holds u.candidate (unknown_there f entries same u.candidate (Contains-map (λ (v : UnknownValue). v.candidate) f.unknown u at)))

  pub refuted_within : (q : QuestionValue) (stopped : Option Candidate) → StaysWithin q entries stopped → All (IsWithin q) f.refuted
  refuted_within q stopped stays = all_contained (IsWithin q) f.refuted (λ x at. All-contains (λ (entry : Candidate × Settled). IsWithin q entry.0) entries (with Refuted x) stays.settled (refuted_there f entries same x at))
