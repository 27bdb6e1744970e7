-- What holds between the turns of a search, and where it ends.
use Rattle.std.specs.Prelude.{◌≡◌, ℕ, ◌+◌, ◌<◌, ◌≤◌, true, List, [], length, get_or, All}
use Rattle.cnf_formula.specs.{Formulas.FormulaValue, Lines.ProofLineValue}
use Rattle.proof_rules.specs.{declared.verdict.LineVerdict.TheVariants.Accepted, Held.{CheckerValue, start_of}, Judging.verdict_of, Learning.{AllImplied, AllFresh}}
use Rattle.ledger_rules.specs.Logs.{checker_of}
use Rattle.trail_core.specs.Meaning.{CoreValue}
use Rattle.sat_core.specs.inner.Holding.{Agree, IsSame}
use Rattle.sleeping_clauses.specs.{Sleeping.SleepersValue, declared.awake.Awake.Awake}

-- the checker holds the core's clauses and those that sleep under their numbers, and no number above them; and the formula's
-- clauses are the first of the core
pub record IsHolding (base : FormulaValue) (c : CheckerValue) (core : CoreValue) (awake : Awake) (s : SleepersValue) : Type 0 where
  pub agree : Agree c core awake.names.items s
  pub formula : c.formula ≡ base
  pub below : All (λ entry. entry.0 ≤ awake.held) c.held
  pub greatest : c.greatest ≤ awake.held
  pub many : length base.clauses ≤ awake.held
  pub own : awake.formula ≡ length base.clauses
  pub within : length base.clauses ≤ length core.clauses
  pub first : (k : ℕ) → k < length base.clauses → IsSame (get_or base.clauses k []) (get_or core.clauses k [])

-- the lines are numbered on from the clauses of the formula
abbrev pub AreNumbered : ℕ → List ProofLineValue → Type 0
AreNumbered clauses lines = (k : ℕ) (d : ProofLineValue) → k < length lines → (get_or lines k d).id ≡ clauses + 1 + k

-- each line has at most one hint more than there are variables
abbrev pub AreShort : ℕ → List ProofLineValue → Type 0
AreShort vars lines = All (λ line. length line.hints ≤ vars + 1) lines

-- what the lines of a search are, however it ends
pub record AreWritten (base : FormulaValue) (lines : List ProofLineValue) : Type 0 where
  pub implied : AllImplied (start_of base) lines
  pub numbered : AreNumbered (length base.clauses) lines
  pub short : AreShort base.vars lines

pub record IsReady (base : FormulaValue) (lines : List ProofLineValue) (core : CoreValue) (awake : Awake) (s : SleepersValue) : Type 0 where
  pub holding : IsHolding base (checker_of base lines) core awake s
  pub written : AreWritten base lines
  pub fresh : AllFresh (start_of base) lines
  pub count : awake.held ≡ length base.clauses + length lines

-- each line was learned, and after them no line without a literal is implied
pub record IsOver (base : FormulaValue) (lines : List ProofLineValue) : Type 0 where
  pub fresh : AllFresh (start_of base) lines
  pub not_closed : (line : ProofLineValue) → line.lits ≡ [] → verdict_of (checker_of base lines) line ≡ Accepted true → ⊥
