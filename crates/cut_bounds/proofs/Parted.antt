-- After a whole search the cuts and the record below are parts of what the frontier has as refuted.
use Rattle.std.proofs.{Common.{arith, append_assoc, ◌≡◌, ◌+◌, true, false, List, [], ◌∷◌, ◌++◌, map, Some, None, refl, ⊎_elim, subst, All, Contains, MatchOption, Option, not}, lemmas.{Bool.{cases_Bool, not_from_false}, List.append-nil}}
use Rattle.std.{proofs.lemmas.{List.Elements.{filter-append, filter_map-append, recursion_from_All}, Bool.Decides.nat_tests}, specs.{List.{AllByRecursion, Sorted.IsPermutation}, Option.{is_some, option_map}}}
use Rattle.list_laws.proofs.{Each.all_contained, Members.Contains-map}
use Rattle.candidate_order.specs.{declared.candidate.Candidate.Candidate, Frontiers.{QuestionValue, FrontierValue, PointValue, UnknownValue, IsWithin, solved, given_up}}
use Rattle.engine_rules.specs.{declared.settled.Settled.{Settled, TheVariants.{Solved, Refuted, Unknown}}, Outcomes.RecordValue}
use Rattle.pareto_search.{specs.Recorded.entries_of, proofs.Entries.{solved_there, refuted_there, unknown_there}}
use Rattle.node_cuts.specs.{declared.sets.Sets.Sets, Cuts.CutValue, Cutting.{cut_for, is_cut, with_cut}}
use Rattle.cut_bounds.{specs.{Cutting.{cuts_of, uncut_entries}, Parting.{cuts_among, uncut_among, without_cuts}}, proofs.Permuting.{IsPermutation-filter, IsPermutation-filter_map}}

abbrev of_kind : Settled → List Candidate → RecordValue
of_kind kind xs = map (λ x. (x, kind)) xs

module _ (sets : Sets) where
  -- ---- of candidates of one kind

  all_stay : (q : QuestionValue) (kind : Settled) (xs : List Candidate) → AllByRecursion (λ x. is_cut sets q x ≡ false) xs → uncut_entries sets q (of_kind kind xs) ≡ of_kind kind xs
  all_stay q kind [] none = refl
  all_stay q kind (x ∷ xs) none = grind (arith, nat_tests, not_from_false, all_stay q kind xs none.1)

  no_cut : (o : Option CutValue) (x : Candidate) → is_some o ≡ false → option_map {U = Candidate × CutValue} (λ cut. (x, cut)) o ≡ None
  no_cut None x none = refl
  no_cut (Some cut) x none = absurd (cc)

  no_cuts : (q : QuestionValue) (kind : Settled) (xs : List Candidate) → AllByRecursion (λ x. is_cut sets q x ≡ false) xs → cuts_of sets q (of_kind kind xs) ≡ []
  no_cuts q kind [] none = refl
  no_cuts q kind (x ∷ xs) none = grind (arith, nat_tests, no_cut, no_cuts q kind xs none.1)

  some_stay : (q : QuestionValue) (kind : Settled) (xs : List Candidate) → uncut_entries sets q (of_kind kind xs) ≡ of_kind kind (uncut_among sets q xs)
  some_stay q kind [] = refl
  some_stay q kind (x ∷ xs) =
      let rest = some_stay q kind xs in
      ⊎_elim
      (λ (stays : not (is_cut sets q x) ≡ true). rw (stays, rest) refl)
      (λ (goes : not (is_cut sets q x) ≡ false). rw (goes, rest) refl)
      (cases_Bool (not (is_cut sets q x)))

  some_cuts : (q : QuestionValue) (kind : Settled) (xs : List Candidate) → cuts_of sets q (of_kind kind xs) ≡ cuts_among sets q xs
  some_cuts q kind [] = refl
  some_cuts q kind (x ∷ xs) = grind (arith, nat_tests, some_cuts q kind xs)

  -- ---- one candidate more

  pub cuts_on : (q : QuestionValue) (x : Candidate) (rest : List Candidate) (o : Option CutValue) (before now : List (Candidate × CutValue)) → o ≡ cut_for sets q x → MatchOption o (now ≡ before) (λ first. now ≡ before ++ (x, first) ∷ [])
      → now ++ cuts_among sets q rest ≡ before ++ cuts_among sets q (x ∷ rest)
  cuts_on q x rest None before now is added = rw (added, ← is) refl
  cuts_on q x rest (Some first) before now is added = rw (added, ← is) (append_assoc before ((x, first) ∷ []) (cuts_among sets q rest))

  pub others_on : (q : QuestionValue) (x : Candidate) (rest : List Candidate) (o : Option CutValue) (before now : List Candidate) → o ≡ cut_for sets q x → MatchOption o (now ≡ before ++ x ∷ []) (λ first. now ≡ before)
      → now ++ uncut_among sets q rest ≡ before ++ uncut_among sets q (x ∷ rest)
  others_on q x rest None before now is added = rw (added, ← is) (append_assoc before (x ∷ []) (uncut_among sets q rest))
  others_on q x rest (Some first) before now is added = rw (added, ← is) refl

  -- ---- of a frontier

  module _ (q : QuestionValue) (f : FrontierValue) (entries : RecordValue) (moved : IsPermutation entries (entries_of f))
      (refutes : (x : Candidate) (kind : Settled) → Contains entries (x, kind) → is_cut sets q x ≡ true → kind ≡ Refuted) where
    uncut : (kind : Settled) (x : Candidate) → (kind ≡ Refuted → ⊥) → Contains entries (x, kind) → is_cut sets q x ≡ false
    uncut kind x other at = ⊎_elim (λ cut. absurd (other (refutes x kind at cut))) (λ none. none) (cases_Bool (is_cut sets q x))

    solved_uncut : (x : Candidate) → Contains (solved f) x → is_cut sets q x ≡ false
    solved_uncut x at = uncut Solved x (λ e. absurd (cc)) (solved_there f entries moved x at)

    unknown_uncut : (x : Candidate) → Contains (given_up f) x → is_cut sets q x ≡ false
    unknown_uncut x at = uncut Unknown x (λ e. absurd (cc)) (unknown_there f entries moved x at)

    solved_all : AllByRecursion (λ x. is_cut sets q x ≡ false) (solved f)
    solved_all = recursion_from_All (λ x. is_cut sets q x ≡ false) (solved f) (all_contained (λ x. is_cut sets q x ≡ false) (solved f) solved_uncut)

    unknown_all : AllByRecursion (λ x. is_cut sets q x ≡ false) (given_up f)
    unknown_all = recursion_from_All (λ x. is_cut sets q x ≡ false) (given_up f) (all_contained (λ x. is_cut sets q x ≡ false) (given_up f) unknown_uncut)

    pub points_uncut : All (λ (p : PointValue). is_cut sets q p.candidate ≡ false) f.points
    points_uncut = all_contained (λ (p : PointValue). is_cut sets q p.candidate ≡ false) f.points (λ p at. solved_uncut p.candidate (Contains-map (λ (p : PointValue). p.candidate) f.points p at))

    pub given_up_uncut : All (λ (u : UnknownValue). is_cut sets q u.candidate ≡ false) f.unknown
    given_up_uncut = all_contained (λ (u : UnknownValue). is_cut sets q u.candidate ≡ false) f.unknown (λ u at. unknown_uncut u.candidate (Contains-map (λ (u : UnknownValue). u.candidate) f.unknown u at))

    pub refuted_within : ((x : Candidate) (kind : Settled) → Contains entries (x, kind) → IsWithin q x) → All (IsWithin q) f.refuted
    refuted_within within =
        all_contained (IsWithin q) f.refuted (λ x at. within x Refuted (refuted_there f entries moved x at))

    cuts_are : cuts_of sets q (entries_of f) ≡ cuts_among sets q f.refuted
    cuts_are = simp (filter_map-append, no_cuts q Solved (solved f) solved_all, some_cuts q Refuted f.refuted, no_cuts q Unknown (given_up f) unknown_all, append-nil)

    pub cuts_parted : IsPermutation (cuts_of sets q entries) (cuts_among sets q f.refuted)
    cuts_parted = subst (IsPermutation (cuts_of sets q entries)) cuts_are (IsPermutation-filter_map (λ (e : Candidate × Settled). with_cut sets q e.0) entries (entries_of f) moved)

    rest_is : uncut_entries sets q (entries_of f) ≡ entries_of (without_cuts sets q f)
    rest_is = simp (filter-append, all_stay q Solved (solved f) solved_all, some_stay q Refuted f.refuted, all_stay q Unknown (given_up f) unknown_all)

    pub rest_parted : (inner : RecordValue) → inner ≡ uncut_entries sets q entries → IsPermutation inner (entries_of (without_cuts sets q f))
    rest_parted inner kept = grind (arith, nat_tests, rest_is, IsPermutation-filter)
