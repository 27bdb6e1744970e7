-- Some clauses of a core make another core, and the others fall asleep.
use Rattle.std.specs.Prelude.{◌≡◌, ◌⊎◌, ℕ, ◌<◌, ◌≤◌, List, [], length, get_or, Contains}
use Rattle.cnf_formula.specs.Literals.{LitValue}
use Rattle.proof_rules.specs.Held.{Entry}
use Rattle.sleeping_clauses.specs.{declared.awake.Awake.Awake, Sleeping.{SleepersValue, IsAsleep}, Naming.IsListed}
use Rattle.sat_core.specs.inner.Holding.{AreNamed, AreAsleep}

-- of the first so many clauses each is in what is left or fell asleep, and none of the formula fell asleep; what is left, and
-- what sleeps, is held under its number wherever the core's clauses and what slept before are
pub record IsDividing (clauses : List (List LitValue)) (names : List ℕ) (formula : ℕ) (before : SleepersValue) (k : ℕ) (left : List (List LitValue)) (awake : Awake) (now : SleepersValue) : Type 0 where
  pub listed : IsListed left awake
  pub named : (held : List Entry) → AreNamed held names clauses → AreNamed held awake.names.items left
  pub asleep : (held : List Entry) → AreNamed held names clauses → AreAsleep held before → AreAsleep held now
  pub all : (j : ℕ) → j < k → Contains left (get_or clauses j []) ⊎ IsAsleep now (get_or clauses j [])
  pub stay : (clause : List LitValue) → IsAsleep before clause → IsAsleep now clause
  pub few : k ≤ formula → length left ≡ k
  pub many : formula ≤ k → formula ≤ length left
  pub first : (j : ℕ) → j < formula → j < k → get_or left j [] ≡ get_or clauses j []
