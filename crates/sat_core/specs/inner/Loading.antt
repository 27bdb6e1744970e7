-- The clauses that a search begins with.
use Rattle.std.specs.Prelude.{◌≡◌, ℕ, ◌<◌, List, [], length, get_or, min}
use Rattle.cnf_formula.specs.Literals.{LitValue}
use Rattle.sat_core.specs.inner.Holding.{IsSame}

-- so many of a formula's variables have literals
abbrev pub own_of : ℕ → ℕ
own_of vars = min vars 2147483647

-- the clauses in their order, up to literals that stand there twice
pub record IsLoaded (clauses loaded : List (List LitValue)) : Type 0 where
  pub count : length loaded ≡ length clauses
  pub same : (k : ℕ) → k < length clauses → IsSame (get_or clauses k []) (get_or loaded k [])
