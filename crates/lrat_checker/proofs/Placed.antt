-- Clauses by their places, and what is held.
use Rattle.std.{proofs.lemmas.{Grind.common_steps, Bool.{false≢true, cases_Bool, cases_lt, Decides.nat_tests}}, specs.List.{list_all, enumerate_from}}
use Rattle.std.proofs.Common.{◌≡◌, ℕ, zero, suc, ◌+◌, ◌-◌, ◌<◌, ◌≤◌, Bool, true, false, List, [], ◌∷◌, ◌++◌, length, get_or, Some, None, refl, sym, ap, ⊎_elim, arith, ◌≢◌, ◌&&◌, if◌then◌else◌, All}
use Rattle.std.proofs.lemmas.List.{get_or_default, get_or_past, length_push, get_or_append_left, get_or_push, Elements.{All-head, All-tail}}
use Rattle.cnf_formula.specs.Literals.{LitValue}
use Rattle.proof_rules.specs.Held.{Entry, clause_at}
use Rattle.lrat_checker.specs.Stored.{held_of, last_of, Rises}

-- ---- numbers that ascend

pub rises_tail : (x : ℕ) (ids : List ℕ) → Rises (x ∷ ids) → Rises ids
rises_tail x ids r i j lt w = r (suc i) (suc j) (omega (arith, lt)) (omega (arith, w))

pub rises_weakly : (ids : List ℕ) → Rises ids → (i j : ℕ) → i ≤ j → j < length ids → get_or ids i 0 ≤ get_or ids j 0
rises_weakly ids r i j le w = grind (arith, r i j)

pub head_below : (x : ℕ) (ids : List ℕ) → Rises (x ∷ ids) → All (λ y. x < y) ids
head_below x ids r k d w = grind (arith, r 0 (suc k), get_or_default)

-- a number between two neighbours is none of them
pub not_there : (ids : List ℕ) (id i : ℕ) → ((k : ℕ) → k < i → get_or ids k 0 < id) → ((k : ℕ) → i ≤ k → k < length ids → id < get_or ids k 0) → All (λ other. other ≢ id) ids
not_there ids id i low high k d w e = grind (arith, low k, high k, get_or_default)

pub rises_push : (ids : List ℕ) (id : ℕ) → last_of ids < id → Rises ids → Rises (ids ++ id ∷ [])
rises_push ids id above r i j lt w = grind (arith, r i j, rises_weakly ids r i (length ids - 1), get_or_append_left, get_or_push, length_push, cases_lt j (length ids))

pub last_push : (ids : List ℕ) (id : ℕ) → last_of (ids ++ id ∷ []) ≡ id
last_push ids id = let n = length_push ids id in get_or_push ids id 0 (length (ids ++ id ∷ []) - 1) (omega (arith, n))

-- ---- what is held under a number

abbrev pub Others : ℕ → List ℕ → Type 0
Others id ids = All (λ other. other ≢ id) ids

pub not_held : (ids : List ℕ) (live : List Bool) (clauses : List (List LitValue)) (id : ℕ) → Others id ids → clause_at (held_of ids live clauses) id ≡ None
not_held (x ∷ ids) (b ∷ live) (clause ∷ clauses) id a = grind (arith, nat_tests, not_held ids live clauses id (All-tail (λ other. other ≢ id) x ids a), All-head (λ other. other ≢ id) x ids a)
not_held ids live clauses id a = refl

pub others_above : (id : ℕ) (ids : List ℕ) → All (λ y. id < y) ids → Others id ids
others_above id ids a k d w e = let lt = a k d w in omega (arith, lt, e)

pub held_at : (ids : List ℕ) (live : List Bool) (clauses : List (List LitValue)) (place : ℕ) → Rises ids → length live ≡ length ids → length clauses ≡ length ids → place < length ids
    → clause_at (held_of ids live clauses) (get_or ids place 0) ≡ (if get_or live place false then Some (get_or clauses place []) else None)
held_at (x ∷ ids) (b ∷ live) (clause ∷ clauses) zero r l m w = grind (arith, nat_tests, not_held ids live clauses x (others_above x ids (head_below x ids r)))
held_at (x ∷ ids) (b ∷ live) (clause ∷ clauses) (suc place) r l m w = grind (arith, nat_tests, head_below x ids r place 0, held_at ids live clauses place (rises_tail x ids r) (omega (arith, l)) (omega (arith, m)) (omega (arith, w)))
held_at ids live clauses place r l m w = absurd (omega (arith, w, l, m))

-- ---- one more

pub held_push : (ids : List ℕ) (live : List Bool) (clauses : List (List LitValue)) (id : ℕ) (clause : List LitValue) (held : Bool) → length live ≡ length ids → length clauses ≡ length ids
    → held_of (ids ++ id ∷ []) (live ++ held ∷ []) (clauses ++ clause ∷ []) ≡ held_of ids live clauses ++ (if held then (id, clause) ∷ [] else [])
held_push (x ∷ ids) (b ∷ live) (c ∷ clauses) id clause held l m = grind (arith, held_push ids live clauses id clause held (omega (arith, l)) (omega (arith, m)))
held_push ids live clauses id clause held l m = grind (arith, common_steps)

pub enumerate-push : (n : ℕ) (clauses : List (List LitValue)) (clause : List LitValue) → enumerate_from n (clauses ++ clause ∷ []) ≡ enumerate_from n clauses ++ (n + length clauses, clause) ∷ []
enumerate-push n [] clause = let e : n ≡ n + 0 = omega arith in ap (λ k. (k, clause) ∷ []) e
enumerate-push n (c ∷ clauses) clause = grind (arith, enumerate-push (n + 1) clauses clause)

-- ---- a test of all that is held

module _ (test : Entry → Bool) where
  pub all_by_place : (ids : List ℕ) (live : List Bool) (clauses : List (List LitValue)) → ((k : ℕ) → k < length ids → get_or live k false ≡ true → test (get_or ids k 0, get_or clauses k []) ≡ true) → list_all test (held_of ids live clauses) ≡ true
  all_by_place (x ∷ ids) (b ∷ live) (c ∷ clauses) h = grind (arith, h 0 (omega arith), all_by_place ids live clauses (λ k w t. h (suc k) (omega (arith, w)) t))
  all_by_place ids live clauses h = refl

  pub not_all : (ids : List ℕ) (live : List Bool) (clauses : List (List LitValue)) (k : ℕ) → length live ≡ length ids → length clauses ≡ length ids → k < length ids → get_or live k false ≡ true → test (get_or ids k 0, get_or clauses k []) ≡ false → list_all test (held_of ids live clauses) ≡ false
  not_all (x ∷ ids) (b ∷ live) (c ∷ clauses) (suc k) l m w t f = grind (arith, not_all ids live clauses k (omega (arith, l)) (omega (arith, m)) (omega (arith, w)) t f)
  not_all ids live clauses k l m w t f = grind (arith, nat_tests)

some_fails_here : (test : ℕ → Bool) (x : ℕ) (xs : List ℕ) → (test x && list_all test xs) ≡ false → test x ≡ true → list_all test xs ≡ false
some_fails_here test x xs h t = grind arith

-- one of a list that does not pass
pub some_fails : (test : ℕ → Bool) (xs : List ℕ) → list_all test xs ≡ false → (j : ℕ) × (j < length xs) × (test (get_or xs j 0) ≡ false)
some_fails test [] h = absurd (false≢true (sym h))
some_fails test (x ∷ xs) h =
    ⊎_elim (λ t.
    let (j, w, f) = some_fails test xs (some_fails_here test x xs h t) in
    (suc j, omega (arith, w), f))
    (λ f. (0, omega arith, f))
    (cases_Bool (test x))

-- a place is one of the table's where its clause is held
pub live_within : (live : List Bool) (k : ℕ) → get_or live k false ≡ true → k < length live
live_within live k t = grind (arith, get_or_past, cases_lt k (length live))
