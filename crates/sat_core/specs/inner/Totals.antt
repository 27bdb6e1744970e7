-- A core that nothing is left to decide of, and the values that its variables have.
use Rattle.std.specs.Prelude.{◌≡◌, ℕ, ◌+◌, ◌<◌, ◌≤◌, Bool, true, false, List, All, Contains, get_or}
use Rattle.cnf_formula.specs.{Literals.{LitValue, yes, no}, Formulas.IsClause}
use Rattle.trail_core.specs.{Assigned.IsOpen, Formed.IsTrail, Meaning.{CoreValue, trues, IsClosed}}

-- its trail is closed, and no variable is open
pub record IsTotal (core : CoreValue) : Type 0 where
  pub formed : IsTrail core.vars core.trail core.limits
  pub about : All (IsClause core.vars) core.clauses
  pub closed : IsClosed (trues core) core.clauses
  pub all : (v : ℕ) → 0 < v → v ≤ core.vars → IsOpen (trues core) (no v) → ⊥

-- the value of each of the first variables is true exactly where the variable stands on the trail
pub record AreValues (trues : List LitValue) (own : ℕ) (values : List Bool) : Type 0 where
  pub stands : (v : ℕ) → v < own → get_or values v false ≡ true → Contains trues (yes (v + 1))
  pub lacks : (v : ℕ) → v < own → get_or values v false ≡ false → Contains trues (yes (v + 1)) → ⊥
