-- What a checker holds of a core's clauses and of those that sleep, and under which numbers.
use Rattle.std.specs.Prelude.{◌≡◌, ◌⊎◌, ℕ, ◌+◌, ◌<◌, List, [], Some, Contains, length, get_or, ◌≤◌}
use Rattle.cnf_formula.specs.Literals.{LitValue}
use Rattle.proof_rules.specs.Held.{Entry, clause_at, CheckerValue}
use Rattle.sleeping_clauses.specs.Sleeping.{SleepersValue, IsAsleep}
use Rattle.trail_core.specs.Meaning.{CoreValue}

-- they have the same literals
pub record IsSame (clause other : List LitValue) : Type 0 where
  pub into : (l : LitValue) → Contains clause l → Contains other l
  pub from : (l : LitValue) → Contains other l → Contains clause l

-- the clause is held under a number
abbrev pub IsHeldAs : List Entry → ℕ → List LitValue → Type 0
IsHeldAs held number lits = (clause : List LitValue) × (clause_at held number ≡ Some clause) × IsSame clause lits

-- each clause of the core is held under the number that the table has for it
abbrev pub AreNamed : List Entry → List ℕ → List (List LitValue) → Type 0
AreNamed held names clauses = (id : ℕ) → id < length clauses → IsHeldAs held (get_or names (id + 1) 0) (get_or clauses id [])

-- each clause that fell asleep is held under its number
abbrev pub AreAsleep : List Entry → SleepersValue → Type 0
AreAsleep held s = (place : ℕ) → place < length s.clauses → IsHeldAs held (get_or s.numbers place 0) (get_or s.clauses place [])

-- each clause that is held is one of the core, or sleeps
abbrev pub AreAmongOr : List Entry → List (List LitValue) → SleepersValue → Type 0
AreAmongOr held clauses s = (entry : Entry) → Contains held entry → (clause : List LitValue) × (Contains clauses clause ⊎ IsAsleep s clause) × IsSame entry.1 clause

-- each clause of the core, and each that fell asleep, is held under its number, and no other is held
pub record AreHeld (held : List Entry) (names : List ℕ) (clauses : List (List LitValue)) (s : SleepersValue) : Type 0 where
  pub named : AreNamed held names clauses
  pub asleep : AreAsleep held s
  pub only : AreAmongOr held clauses s

-- the core's clauses and those that sleep are those that the checker holds, and its variables are some of the formula's
pub record Agree (c : CheckerValue) (core : CoreValue) (names : List ℕ) (s : SleepersValue) : Type 0 where
  pub vars : core.vars ≤ c.formula.vars
  pub held : AreHeld c.held names core.clauses s

-- the number is greater than each before
pub record IsNext (c : CheckerValue) (id : ℕ) : Type 0 where
  pub above_formula : length c.formula.clauses < id
  pub above_lines : c.greatest < id
