-- What callers know of a trail beside why its literals are true.
use Rattle.std.specs.Prelude.{◌≢◌, ℕ, ◌≤◌, List, All, AllPairs, length}
use Rattle.cnf_formula.specs.Formulas.{IsAbout}
use Rattle.trail_core.specs.{Assigned.AreLimits, Trails.{StepValue, lits_of}}

-- literals of its variables, each variable once; and its levels begin one above the other
pub record IsTrail (vars : ℕ) (steps : List StepValue) (limits : List ℕ) : Type 0 where
  pub within : All (IsAbout vars) (lits_of steps)
  pub apart : AllPairs (λ a b. a.var ≢ b.var) (lits_of steps)
  pub few : length steps ≤ vars
  pub levels : AreLimits limits (length steps)
