-- What holds of every number of a range, and of clauses that are there where a test passes.
use Rattle.std.proofs.{Common.{◌≡◌, ℕ, zero, suc, ◌+◌, ◌<◌, ◌≤◌, Bool, true, cond, List, [], ◌∷◌, ◌++◌, map, refl, arith, flat_map, All}, lemmas.{Bool.{and_parts, and_from, cases_eq, Decides.nat_tests}, List.Folds.list_all-append}}
use Rattle.std.{proofs.lemmas.List.Elements.{All-nil, All-cons, All-append}, specs.List.{list_all, range_with_len}}
use Rattle.cnf_formula.specs.Literals.{LitValue, clause_holds, all_hold}

pub range_passes : {X : Type 0} (p : X → Bool) (f : ℕ → List X) (a n j : ℕ) → list_all p (flat_map f (range_with_len a n)) ≡ true → a ≤ j → j < a + n → list_all p (f j) ≡ true
range_passes p f a zero j h low high = absurd (omega (arith, low, high))
range_passes p f a (suc n) j h low high = grind (arith, nat_tests, and_parts, cases_eq, list_all-append, range_passes p f (a + 1) n j)

pub passes_range : {X : Type 0} (p : X → Bool) (f : ℕ → List X) (a n : ℕ) → ((j : ℕ) → a ≤ j → j < a + n → list_all p (f j) ≡ true) → list_all p (flat_map f (range_with_len a n)) ≡ true
passes_range p f a zero h = refl
passes_range p f a (suc n) h = grind (arith, nat_tests, and_from, list_all-append, passes_range p f (a + 1) n)

pub all_of_range : {X : Type 0} (P : X → Type 0) (f : ℕ → List X) (a n : ℕ) → ((j : ℕ) → a ≤ j → j < a + n → All P (f j)) → All P (flat_map f (range_with_len a n))
all_of_range P f a zero h = All-nil P
all_of_range P f a (suc n) h =
    All-append P (f a) (flat_map f (range_with_len (a + 1) n)) (h a (omega arith) (omega arith))
    (all_of_range P f (a + 1) n (λ j low high. h j (omega (arith, low)) (omega (arith, high))))

pub all_of_map : {X : Type 0} (P : X → Type 0) (f : ℕ → X) (a n : ℕ) → ((j : ℕ) → a ≤ j → j < a + n → P (f j)) → All P (map f (range_with_len a n))
all_of_map P f a zero h = All-nil P
all_of_map P f a (suc n) h = All-cons P (f a) (map f (range_with_len (a + 1) n)) (h a (omega arith) (omega arith)) (all_of_map P f (a + 1) n (λ j low high. h j (omega (arith, low)) (omega (arith, high))))

-- ---- clauses in parts

pub both_hold : (values : List Bool) (xs ys : List (List LitValue)) → all_hold values (xs ++ ys) ≡ true → (all_hold values xs ≡ true) × (all_hold values ys ≡ true)
both_hold values xs ys h = grind (arith, list_all-append (clause_holds values) xs ys)

pub hold_both : (values : List Bool) (xs ys : List (List LitValue)) → all_hold values xs ≡ true → all_hold values ys ≡ true → all_hold values (xs ++ ys) ≡ true
hold_both values xs ys a b = grind (arith, list_all-append (clause_holds values) xs ys)

-- ---- clauses under a test

pub only_holds : (values : List Bool) (test : Bool) (clause : List LitValue) → all_hold values (cond test (clause ∷ []) []) ≡ true → test ≡ true → clause_holds values clause ≡ true
only_holds values test clause h t = grind arith

pub holds_only : (values : List Bool) (test : Bool) (clause : List LitValue) → (test ≡ true → clause_holds values clause ≡ true) → all_hold values (cond test (clause ∷ []) []) ≡ true
holds_only values test clause h = grind arith
