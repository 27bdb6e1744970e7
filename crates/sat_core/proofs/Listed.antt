-- The clause that a table has at a place.
use Rattle.std.proofs.{Common.{◌≡◌, ℕ, ◌<◌, List, [], length, get_or, sym, ap, ◌∙◌, subst, arith, ◌≢◌, All, AllPairs}, lemmas.List.get_or_default}
use Rattle.cnf_formula.specs.Literals.{LitValue}
use Rattle.sleeping_clauses.specs.{declared.awake.Awake.Awake, Naming.IsListed}

-- the number that is read is the clause's
pub id_is : (clauses : List (List LitValue)) (awake : Awake) (place read : ℕ) → IsListed clauses awake → place < length clauses → read ≡ get_or awake.ids.items place read → read ≡ place
id_is clauses awake place read l w e = e ∙ get_or_default awake.ids.items place read 0 (omega (arith, w, l.ids_len)) ∙ l.ids place w

-- so the clause that is read is the one at the place
pub clause_is : (clauses : List (List LitValue)) (awake : Awake) (place read : ℕ) (clause : List LitValue) → IsListed clauses awake → place < length clauses → read ≡ get_or awake.ids.items place read → clause ≡ get_or clauses read [] → clause ≡ get_or clauses place []
clause_is clauses awake place read clause l w e is = is ∙ ap (λ n. get_or clauses n []) (id_is clauses awake place read l w e)

-- and has no literal twice
pub once_is : (clauses : List (List LitValue)) (awake : Awake) (place read : ℕ) (clause : List LitValue) → IsListed clauses awake → place < length clauses → read ≡ get_or awake.ids.items place read → clause ≡ get_or clauses read [] → AllPairs (λ a b. a ≢ b) clause
once_is clauses awake place read clause l w e is = subst (AllPairs (λ a b. a ≢ b)) (sym (clause_is clauses awake place read clause l w e is)) (l.once place w)

-- none of the clauses has a literal twice
pub all_once : (clauses : List (List LitValue)) → ((k : ℕ) → k < length clauses → AllPairs (λ a b. a ≢ b) (get_or clauses k [])) → All (AllPairs (λ a b. a ≢ b)) clauses
all_once clauses once k d w = subst (AllPairs (λ a b. a ≢ b)) (get_or_default clauses k [] d w) (once k w)
