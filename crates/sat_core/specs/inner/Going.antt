-- What the calls of a search keep, and what it goes on with.
use Rattle.std.specs.Prelude.{◌≡◌, ◌+◌, ◌≤◌, List, length, map}
use Rattle.cnf_formula.specs.{Formulas.FormulaValue, Lines.ProofLineValue, declared.line.LratLine.TheVariants.Addition}
use Rattle.proof_rules.specs.Refuting.{Refutes}
use Rattle.ledger_rules.specs.declared.ledger.Ledger as own
use Rattle.ledger_rules.specs.declared.ledger.LedgerView as view
use Rattle.trail_core.specs.Meaning.{CoreValue}
use Rattle.sleeping_clauses.specs.{Sleeping.SleepersValue, declared.awake.Awake.Awake}
use Rattle.sat_core.specs.{declared.guide.Guide.Guide, inner.Guided.IsGuided, Ready.{AreWritten, IsReady, IsOver}}

-- a ledger beside its store was written on: its lines are those of a search, its formula and its limit stay, and what was spent is spent
pub record IsWrittenOn {L T : Type 0} (V : view.Ghosts L) (W : own.Ghosts L T) (before : L) (was : T) (now : L) (is : T) : Type 0 where
  pub written : AreWritten (V.base now) (V.lines now)
  pub moves : W.moves before was now is
  pub base : V.base now ≡ V.base before
  pub limit : V.limit now ≡ V.limit before
  pub spent : V.spent before ≤ V.spent now

-- a search goes on from here: it is ready, its tables are of its core, and the store holds what the ledger says
pub record CanSearch {L T : Type 0} (V : view.Ghosts L) (W : own.Ghosts L T) (ledger : L) (store : T) (core : CoreValue) (guide : Guide) : Type 0 where
  pub ready : IsReady (V.base ledger) (V.lines ledger) core guide.awake guide.sleepers
  pub guided : IsGuided core guide
  pub agrees : W.agrees ledger store

-- a search ends here: the ledger's lines refute its formula, and all but the last of them were learned
pub record HasRefuted {L T : Type 0} (V : view.Ghosts L) (W : own.Ghosts L T) (ledger : L) (store : T) : Type 0 where
  pub refutes : Refutes (map Addition (V.lines ledger)) (V.base ledger)
  pub few : length (V.lines ledger) ≤ V.limit ledger + 1
  pub agrees : W.agrees ledger store

-- or it ends here: as many lines were learned as may be, and none that closes is implied
pub record HasSpent {L T : Type 0} (V : view.Ghosts L) (W : own.Ghosts L T) (ledger : L) (store : T) : Type 0 where
  pub all : V.spent ledger ≡ V.limit ledger
  pub over : IsOver (V.base ledger) (V.lines ledger)
  pub agrees : W.agrees ledger store

-- where a search was ready, it is ready still
abbrev pub StaysReady : CoreValue → Awake → SleepersValue → CoreValue → Awake → SleepersValue → Type 0
StaysReady core awake s core' awake' s' = (base : FormulaValue) (lines : List ProofLineValue) → IsReady base lines core awake s → IsReady base lines core' awake' s'

-- the variables, the trail and its levels stay
pub record IsSameTrail (core core' : CoreValue) : Type 0 where
  pub vars : core'.vars ≡ core.vars
  pub trail : core'.trail ≡ core.trail
  pub limits : core'.limits ≡ core.limits
