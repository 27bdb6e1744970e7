-- What is learned from a conflict: a clause, and the hints by which it is accepted.
use Rattle.std.specs.Prelude.{◌≡◌, ◌⊎◌, ℕ, ◌+◌, ◌<◌, Bool, true, List, [], ◌++◌, ◌∷◌, Option, None, Some, Contains, length, get_or, take, map, filter, ℤ, pos}
use Rattle.cnf_formula.specs.Literals.{LitValue, negation}
use Rattle.trail_core.specs.{Assigned.IsFalse, Trails.{StepValue, lits_of}}

-- the number of a reason; a core's clauses are numbered from 1
abbrev pub number_of : Option ℕ → ℕ
number_of None = 0
number_of (Some id) = id + 1

-- the numbers of the reasons in the core, as hints
abbrev pub hints_of : (StepValue → Bool) → List StepValue → List ℤ
hints_of resolved steps = map (λ s. pos (number_of s.reason)) (filter resolved steps)

abbrev pub hints_to : (StepValue → Bool) → List StepValue → ℕ → List ℤ
hints_to resolved steps conflict = hints_of resolved steps ++ pos (conflict + 1) ∷ []

-- the literal is one of the clause, or a resolved step made it false
abbrev pub IsOut : (StepValue → Bool) → List StepValue → List LitValue → LitValue → Type 0
IsOut resolved before clause o = Contains clause o ⊎ ((s : StepValue) × Contains before s × (resolved s ≡ true) × (s.lit ≡ negation o))

-- the step has a reason, whose other literals are out before it
pub record IsResolved (clauses : List (List LitValue)) (resolved : StepValue → Bool) (clause : List LitValue) (before : List StepValue) (step : StepValue) : Type 0 where
  pub id : ℕ
  pub reason : step.reason ≡ Some id
  pub within : id < length clauses
  pub stands : Contains (get_or clauses id []) step.lit
  pub others : (o : LitValue) → Contains (get_or clauses id []) o → (o ≡ step.lit) ⊎ IsOut resolved before clause o

-- the clause is what remains of a falsified clause where the resolved steps are taken for their reasons
pub record IsAnalysis (clauses : List (List LitValue)) (steps : List StepValue) (resolved : StepValue → Bool) (conflict : ℕ) (clause : List LitValue) : Type 0 where
  pub each : (k : ℕ) (d : StepValue) → k < length steps → resolved (get_or steps k d) ≡ true → IsResolved clauses resolved clause (take k steps) (get_or steps k d)
  pub within : conflict < length clauses
  pub last : (o : LitValue) → Contains (get_or clauses conflict []) o → IsOut resolved steps clause o
  pub falses : (o : LitValue) → Contains clause o → IsFalse (lits_of steps) o
