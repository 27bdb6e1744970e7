-- A turn at a conflict: the line of the conflict, and what the turn came to.
use Rattle.std.specs.Prelude.{ℕ, List}
use Rattle.cnf_formula.specs.{Formulas.FormulaValue, Lines.ProofLineValue}
use Rattle.ledger_rules.specs.declared.ledger.Ledger as own
use Rattle.ledger_rules.specs.declared.ledger.LedgerView as view
use Rattle.trail_core.specs.Meaning.{CoreValue}
use Rattle.conflict_analysis.specs.{Conflicts.IsConflict, Learned.IsLearned}
use Rattle.sleeping_clauses.specs.{Naming.IsNamed, Sleeping.{SleepersValue, sleeping}, declared.awake.Awake.Awake}
use Rattle.sat_core.specs.{declared.{guide.Guide.Guide, turn.Turn.{Turn, TheVariants.{Goes, Refuted, Spent}}}, inner.{Going.{CanSearch, HasRefuted, HasSpent}, Measure.IsLess}, Ready.IsReady}

-- a search is ready and at a conflict, and has what is learned from it as a line by the ledger's numbers
pub record IsTurn (base : FormulaValue) (lines : List ProofLineValue) (core : CoreValue) (awake : Awake) (s : SleepersValue) (conflict : ℕ) (line : ProofLineValue) : Type 0 where
  pub ready : IsReady base lines core awake s
  pub conflicts : IsConflict core conflict
  pub learned : ProofLineValue
  pub is : IsLearned core conflict learned
  pub named : IsNamed awake.names.items awake.held learned line

-- where the turn goes on, a search can, and less is left to do than before, when so many clauses slept
abbrev pub IsTurned : {L T : Type 0} → view.Ghosts L → own.Ghosts L T → L → ℕ → L → T → CoreValue → Guide → Turn → Type 0
IsTurned V W before asleep ledger store core guide Goes = CanSearch V W ledger store core guide × IsLess (V.spent before) asleep (V.spent ledger) (sleeping guide.sleepers)
IsTurned V W before asleep ledger store core guide Refuted = HasRefuted V W ledger store
IsTurned V W before asleep ledger store core guide Spent = HasSpent V W ledger store
