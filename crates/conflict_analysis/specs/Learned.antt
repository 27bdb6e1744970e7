-- What is learned from a conflict: a clause with one literal of the last level, and the hints by which it is accepted.
use Rattle.std.specs.Prelude.{◌≡◌, ◌≢◌, ℕ, ◌+◌, ◌<◌, Bool, List, [], ◌++◌, ◌∷◌, AllPairs, Contains, length, get_or, take}
use Rattle.cnf_formula.specs.{Literals.LitValue, Lines.ProofLineValue}
use Rattle.trail_core.specs.{Trails.StepValue, Meaning.{CoreValue, trues}, Assigned.{IsFalse, IsOpen}}
use Rattle.conflict_analysis.specs.Learning.{IsAnalysis, hints_to}

-- below the last level the last literal is open, and all others are false
pub record IsPointed (core : CoreValue) (clause : List LitValue) : Type 0 where
  pub front : List LitValue
  pub point : LitValue
  pub is : clause ≡ front ++ point ∷ []
  pub open_ : (last : ℕ) → last + 1 ≡ length core.limits → IsOpen (take (get_or core.limits last 0) (trues core)) point
  pub lower : (last : ℕ) → last + 1 ≡ length core.limits → (o : LitValue) → Contains front o → IsFalse (take (get_or core.limits last 0) (trues core)) o

pub record IsLearned (core : CoreValue) (conflict : ℕ) (line : ProofLineValue) : Type 0 where
  pub resolved : StepValue → Bool
  pub analysis : IsAnalysis core.clauses core.trail resolved conflict line.lits
  pub hints : line.hints ≡ hints_to resolved core.trail conflict
  pub id : line.id ≡ length core.clauses + 1
  pub once : AllPairs (λ a b. a.var ≢ b.var) line.lits
  pub closes : length core.limits ≡ 0 → line.lits ≡ []
  pub points : 0 < length core.limits → IsPointed core line.lits
