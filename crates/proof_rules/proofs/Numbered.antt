-- Each clause that is held is found by its number.
use Rattle.std.proofs.{Common.{◌≡◌, ℕ, ◌+◌, ◌<◌, ◌≤◌, Bool, true, List, [], ◌∷◌, ◌++◌, length, Some, refl, arith, filter, All}, lemmas.Bool.{eq-eqb, ne_eqb}}
use Rattle.std.{proofs.lemmas.{List.Elements.{All-nil, All-cons, All-head, All-tail, All-filter}, Grind.common_steps}, specs.List.enumerate_from}
use Rattle.cnf_formula.specs.Literals.{LitValue}
use Rattle.proof_rules.specs.Held.{Entry, clause_at}

abbrev pub Found : List Entry → Entry → Type 0
Found held entry = clause_at held entry.0 ≡ Some (entry.1)

abbrev pub Below : ℕ → Entry → Type 0
Below n entry = entry.0 < n

pub record Numbered (held : List Entry) (n : ℕ) : Type 0 where
  pub found : All (Found held) held
  pub below : All (Below n) held

-- ---- the clauses of a formula

above : (n : ℕ) (clauses : List (List LitValue)) → All (λ entry. n ≤ entry.0) (enumerate_from n clauses)
above n [] = All-nil (λ entry. n ≤ entry.0)
above n (clause ∷ clauses) =
    let later = above (n + 1) clauses in
    All-cons (λ entry. n ≤ entry.0) (n, clause) (enumerate_from (n + 1) clauses) (omega arith) (λ k d w. let a = later k d w in omega (arith, a))

below : (n : ℕ) (clauses : List (List LitValue)) → All (Below (n + length clauses)) (enumerate_from n clauses)
below n [] = All-nil (Below (n + 0))
below n (clause ∷ clauses) =
    let later = below (n + 1) clauses in
    All-cons (Below (n + length (clause ∷ clauses))) (n, clause) (enumerate_from (n + 1) clauses) (omega arith) (λ k d w. let a = later k d w in omega (arith, a))

-- the clause at the front is found by its number
pub here : (held : List Entry) (id : ℕ) (clause : List LitValue) → clause_at ((id, clause) ∷ held) id ≡ Some clause
here held id clause = rw (eq-eqb id id refl) refl

start_found : (n : ℕ) (clauses : List (List LitValue)) → All (Found (enumerate_from n clauses)) (enumerate_from n clauses)
start_found n [] = All-nil (Found [])
start_found n (clause ∷ clauses) = grind (arith, ne_eqb, above (n + 1) clauses, start_found (n + 1) clauses)

pub start_numbered : (clauses : List (List LitValue)) → Numbered (enumerate_from 1 clauses) (length clauses + 1)
start_numbered clauses = grind (arith, below, start_found)

-- ---- one more

pub kept : (held more : List Entry) (id : ℕ) (clause : List LitValue) → clause_at held id ≡ Some clause → clause_at (held ++ more) id ≡ Some clause
kept [] more id clause h = absurd (cc)
kept (entry ∷ held) more id clause h = grind (arith, kept held more id clause)

at_end : (held : List Entry) (id : ℕ) (clause : List LitValue) → All (Below id) held → clause_at (held ++ (id, clause) ∷ []) id ≡ Some clause
at_end [] id clause b = here [] id clause
at_end (entry ∷ held) id clause b = grind (arith, All-head, All-tail, at_end held id clause (All-tail (Below id) entry held b))

pub more_numbered : (held : List Entry) (n id : ℕ) (clause : List LitValue) → n ≤ id → Numbered held n → Numbered (held ++ (id, clause) ∷ []) (id + 1)
more_numbered held n id clause high m = grind (arith, common_steps, kept, at_end)

-- ---- fewer

module _ (stays : ℕ → Bool) where
  abbrev keep : List Entry → List Entry
  keep held = filter (λ entry. stays entry.0) held

  same_found : (held : List Entry) (id : ℕ) → stays id ≡ true → clause_at (keep held) id ≡ clause_at held id
  same_found [] id h = refl
  same_found (entry ∷ held) id h = grind (arith, same_found held id h)

  all_found : (full held : List Entry) → All (Found full) held → All (Found (keep full)) (keep held)
  all_found full [] f = All-nil (Found (keep full))
  all_found full (entry ∷ held) f =
      grind (arith, all_found full held (All-tail (Found full) entry held f), same_found full entry.0, All-head (Found full) entry held f)

  pub fewer_numbered : (held : List Entry) (n : ℕ) → Numbered held n → Numbered (keep held) n
  fewer_numbered held n m = record { found = all_found held held m.found; below = All-filter (λ entry. stays entry.0) (Below n) held m.below }
