-- What the clauses say that join the outputs of two sides.
use Rattle.std.proofs.Common.{◌≡◌, ℕ, zero, suc, ◌+◌, ◌<◌, ◌≤◌, Bool, true, false, cond, List, [], ◌∷◌, ◌++◌, length, get_or, ltb, leb, refl, sym, ◌∙◌, arith, ◌||◌, ◌&&◌, not, flat_map, All}
use Rattle.std.{proofs.lemmas.{Bool.{and_parts, and_from, lt-ltb, ltb-true, le-leb, leb-true, Decides.nat_tests}, List.{Elements.{All-nil, All-cons, All-append}, Folds.list_any-append}}, specs.List.range_with_len}
use Rattle.cnf_formula.{specs.{Literals.{LitValue, yes, negation, is_true, clause_holds, all_hold}, Formulas.{IsAbout, IsClause}}, proofs.Clauses.negation_is}
use Rattle.cardinality.{specs.Totalizers.{unless, joins_at, joins}, proofs.Ranges.{range_passes, passes_range, only_holds, holds_only, all_of_range}}

-- output i is true, or i is 0
abbrev pub is_reached : List Bool → List LitValue → ℕ → Bool
is_reached values outputs zero = true
is_reached values outputs (suc i) = is_true values (get_or outputs i (yes 0))

unless_is : (values : List Bool) (outputs : List LitValue) (i : ℕ) → clause_holds values (unless outputs i) ≡ not (is_reached values outputs i)
unless_is values outputs zero = refl
unless_is values outputs (suc i) = grind (arith, nat_tests, negation_is)

abbrev both_reach : ℕ → List LitValue → List LitValue → ℕ → ℕ → List LitValue
both_reach own left right i j = unless left i ++ unless right j ++ yes (own + (i + j)) ∷ []

both_reach_is : (values : List Bool) (own : ℕ) (left right : List LitValue) (i j : ℕ)
    → clause_holds values (both_reach own left right i j) ≡ ((not (is_reached values left i) || not (is_reached values right j)) || (is_true values (yes (own + (i + j))) || false))
both_reach_is values own left right i j = grind (arith, nat_tests, list_any-append, unless_is)

implied : (a b o : Bool) → ((not a || not b) || (o || false)) ≡ true → a ≡ true → b ≡ true → o ≡ true
implied a b o h p q = grind arith

implying : (a b o : Bool) → (a ≡ true → b ≡ true → o ≡ true) → ((not a || not b) || (o || false)) ≡ true
implying a b o i = grind arith

module _ (own numbers : ℕ) (left right : List LitValue) where
  abbrev counted : ℕ → ℕ → Bool
  counted i j = ltb 0 (i + j) && leb (i + j) numbers

  pub joins_say : (values : List Bool) → all_hold values (joins own numbers left right) ≡ true → (i j : ℕ) → i ≤ length left → j ≤ length right → 0 < i + j → i + j ≤ numbers
      → is_reached values left i ≡ true → is_reached values right j ≡ true → is_true values (yes (own + (i + j))) ≡ true
  joins_say values h i j il jr some few a b =
      let row = range_passes (clause_holds values) (λ i. flat_map (joins_at own numbers left right i) (range_with_len 0 (length right + 1))) 0 (length left + 1) i h (omega arith) (omega (arith, il)) in
      let at = range_passes (clause_holds values) (joins_at own numbers left right i) 0 (length right + 1) j row (omega arith) (omega (arith, jr)) in
      let clause = only_holds values (counted i j) (both_reach own left right i j) at (and_from (ltb 0 (i + j)) (leb (i + j) numbers) (lt-ltb 0 (i + j) some) (le-leb (i + j) numbers few)) in
      implied (is_reached values left i) (is_reached values right j) (is_true values (yes (own + (i + j)))) (sym (both_reach_is values own left right i j) ∙ clause) a b

  pub say_joins : (values : List Bool) → ((i j : ℕ) → i ≤ length left → j ≤ length right → 0 < i + j → i + j ≤ numbers
      → is_reached values left i ≡ true → is_reached values right j ≡ true → is_true values (yes (own + (i + j))) ≡ true) → all_hold values (joins own numbers left right) ≡ true
  say_joins values f = grind (arith, nat_tests, and_parts, both_reach_is, holds_only, implying, leb-true, ltb-true, passes_range)

  -- ---- what they are about

  unless_about : (v : ℕ) (outputs : List LitValue) (i : ℕ) → IsClause v outputs → i ≤ length outputs → IsClause v (unless outputs i)
  unless_about v outputs zero a h = All-nil (IsAbout v)
  unless_about v outputs (suc i) a h =
      let at = a i (yes 0) (omega (arith, h)) in
      All-cons (IsAbout v) (negation (get_or outputs i (yes 0))) [] (record { some = at.some; within = at.within }) (All-nil (IsAbout v))

  pub joins_about : (v many : ℕ) → IsClause v left → IsClause v right → own + many ≤ v → ((i j : ℕ) → i ≤ length left → j ≤ length right → i + j ≤ numbers → i + j ≤ many) → All (IsClause v) (joins own numbers left right)
  joins_about v many l r high fits =
      all_of_range (IsClause v) (λ i. flat_map (joins_at own numbers left right i) (range_with_len 0 (length right + 1))) 0 (length left + 1) (λ i _ il.
      all_of_range (IsClause v) (joins_at own numbers left right i) 0 (length right + 1) (λ j _ jr.
      only_clause (counted i j) (both_reach own left right i j) (λ t.
      let tests = and_parts (ltb 0 (i + j)) (leb (i + j) numbers) t in
      let few = fits i j (omega (arith, il)) (omega (arith, jr)) (leb-true (i + j) numbers tests.1) in
      let some = ltb-true 0 (i + j) tests.0 in
      All-append (IsAbout v) (unless left i ++ unless right j) (yes (own + (i + j)) ∷ [])
      (All-append (IsAbout v) (unless left i) (unless right j) (unless_about v left i l (omega (arith, il))) (unless_about v right j r (omega (arith, jr))))
      (All-cons (IsAbout v) (yes (own + (i + j))) [] (record { some = omega (arith, some); within = omega (arith, few, high) }) (All-nil (IsAbout v))))))
    where
      only_clause : (test : Bool) (clause : List LitValue) → (test ≡ true → IsClause v clause) → All (IsClause v) (cond test (clause ∷ []) [])
      only_clause true clause h = All-cons (IsClause v) clause [] (h refl) (All-nil (IsClause v))
      only_clause false clause h = All-nil (IsClause v)
