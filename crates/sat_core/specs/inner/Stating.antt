-- Literals that clauses state alone, and lines of such.
use Rattle.std.specs.Prelude.{◌≡◌, ◌≢◌, ◌+◌, true, false, Bool, List, [], ◌∷◌, ◌++◌, AllPairs, get_or, Contains}
use Rattle.cnf_formula.specs.{Literals.{LitValue, code_of}, Formulas.{FormulaValue, IsClause}, Lines.ProofLineValue}
use Rattle.proof_rules.specs.{declared.verdict.LineVerdict.TheVariants.Accepted, Judging.verdict_of, Refuting.is_fresh}
use Rattle.ledger_rules.specs.Logs.{checker_of}
use Rattle.trail_core.specs.Meaning.{CoreValue}
use Rattle.sleeping_clauses.specs.declared.awake.Awake.{Awake}
use Rattle.sat_core.specs.Ready.{AreWritten}

-- the clause has no literal but this one
abbrev pub IsAlone : List LitValue → LitValue → Type 0
IsAlone clause l = (o : LitValue) → Contains clause o → o ≡ l

-- of these clauses none has no literal but one that is not marked by its number
abbrev pub AreStated : List (List LitValue) → List Bool → Type 0
AreStated clauses stated = (clause : List LitValue) (l : LitValue) → Contains clauses clause → get_or stated (code_of l) true ≡ false → IsAlone clause l → ⊥

-- what is marked stays so
abbrev pub AreMarkedOn : List Bool → List Bool → Type 0
AreMarkedOn stated stated' = (l : LitValue) → get_or stated' (code_of l) true ≡ false → get_or stated (code_of l) true ≡ false

-- the line is next, is accepted, and no held clause states it
pub record IsStating (base : FormulaValue) (lines : List ProofLineValue) (core : CoreValue) (awake : Awake) (line : ProofLineValue) : Type 0 where
  pub accepted : verdict_of (checker_of base lines) line ≡ Accepted true
  pub fresh : is_fresh (checker_of base lines) line.lits ≡ true
  pub written : AreWritten base (lines ++ line ∷ [])
  pub next : line.id ≡ awake.held + 1
  pub about : IsClause core.vars line.lits
  pub once : AllPairs (λ a b. a ≢ b) line.lits
