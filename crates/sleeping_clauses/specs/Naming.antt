-- The clauses of a core, and their numbers in a ledger.
use Rattle.std.specs.Prelude.{◌≡◌, ◌≢◌, ℕ, ◌+◌, ◌<◌, List, [], length, get_or, map, AllPairs, ℤ, pos, negsuc}
use Rattle.cnf_formula.specs.{Literals.LitValue, Lines.ProofLineValue}
use Rattle.sleeping_clauses.specs.declared.awake.Awake.{Awake}

-- a hint that a table of so many places has a number for
abbrev pub IsName : ℕ → ℤ → Type 0
IsName places hint = (n : ℕ) × (hint ≡ pos n) × (n < places)

-- a hint by the ledger's numbers, of one by the core's
abbrev pub name : List ℕ → ℤ → ℤ
name names (pos n) = pos (get_or names n 0)
name names (negsuc n) = negsuc n

-- the line by the ledger's numbers, of one by the core's
pub record IsNamed (names : List ℕ) (held : ℕ) (line named : ProofLineValue) : Type 0 where
  pub id : named.id ≡ held + 1
  pub lits : named.lits ≡ line.lits
  pub hints : named.hints ≡ map (name names) line.hints

-- a table is of these clauses, none of which has a literal twice
pub record IsListed (clauses : List (List LitValue)) (awake : Awake) : Type 0 where
  pub ids_len : length awake.ids.items ≡ length clauses
  pub ids : (k : ℕ) → k < length clauses → get_or awake.ids.items k 0 ≡ k
  pub names : length awake.names.items ≡ length clauses + 1
  pub once : (k : ℕ) → k < length clauses → AllPairs (λ a b. a ≢ b) (get_or clauses k [])
