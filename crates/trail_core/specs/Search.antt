-- What a scan of the clauses that watch a literal does to rows and trail (unit propagation).
use Rattle.std.specs.Prelude.{◌≡◌, ◌⊎◌, ℕ, ◌<◌, List, [], ◌∷◌, ◌++◌, Some, Contains, length, get_or, map}
use Rattle.cnf_formula.specs.Literals.{LitValue, code_of}
use Rattle.trail_core.specs.{Assigned.{IsFalse, IsOpen}, Trails.{StepValue, TrailValue, lits_of}, Watching.{RowValue, ListsValue, watch_count, row_at, IsWatched, AreRows, AreLists, AreBlocked}}

-- some literal of the clause is true
abbrev pub IsSatisfied : List LitValue → List LitValue → Type 0
IsSatisfied trues clause = (l : LitValue) × Contains clause l × Contains trues l

abbrev pub IsFalsified : List LitValue → List LitValue → Type 0
IsFalsified trues clause = (l : LitValue) → Contains clause l → IsFalse trues l

-- a literal of the clause is open and all others are false
pub record IsUnit (trues : List LitValue) (clause : List LitValue) (l : LitValue) : Type 0 where
  pub stands : Contains clause l
  pub open_ : IsOpen trues l
  pub others : (o : LitValue) → Contains clause o → (o ≡ l) ⊎ IsFalse trues o

abbrev pub clauses_of : List RowValue → List (List LitValue)
clauses_of rows = map (λ r. r.lits) rows

-- a clause, held under this number, had this literal alone left; and it was due
pub record IsImplied (clauses : List (List LitValue)) (due : List StepValue → List LitValue → Type 0) (before : List StepValue) (step : StepValue) : Type 0 where
  pub id : ℕ
  pub reason : step.reason ≡ Some id
  pub within : id < length clauses
  pub unit : IsUnit (lits_of before) (get_or clauses id []) step.lit
  pub was_due : due before (get_or clauses id [])

-- literals that have become true, one after another, each by a clause
pub data Implied (clauses : List (List LitValue)) (due : List StepValue → List LitValue → Type 0) : List StepValue → List StepValue → Type 0 where
  none : (steps : List StepValue) → Implied clauses due steps steps
  more : (steps later : List StepValue) (step : StepValue) → Implied clauses due steps later → IsImplied clauses due later step → Implied clauses due steps (later ++ step ∷ [])

-- the literal stands in the clause
abbrev pub HasLit : LitValue → List StepValue → List LitValue → Type 0
HasLit by before clause = Contains clause by

-- a literal that is false, and what is needed to scan the clauses that watch it
pub record CanScan (rows : List RowValue) (w : ListsValue) (t : TrailValue) : Type 0 where
  pub are_lists : AreLists t.vars w
  pub are_rows : AreRows t.vars rows
  pub watched : IsWatched rows w
  pub blocked : AreBlocked (clauses_of rows) w.watches

-- the clauses stay; a clause that watches another literal watches one that was not false; and literals are implied
pub record Scanned (by : LitValue) (rows : List RowValue) (t : TrailValue) (rows' : List RowValue) (t' : TrailValue) : Type 0 where
  pub vars : t'.vars ≡ t.vars
  pub limits : t'.limits ≡ t.limits
  pub count : length rows' ≡ length rows
  pub same : clauses_of rows' ≡ clauses_of rows
  pub watches : (e k : ℕ) → 0 < watch_count (row_at rows' e) k → (0 < watch_count (row_at rows e) k) ⊎ ((l : LitValue) → code_of l ≡ k → IsFalse (lits_of t.steps) l → ⊥)
  pub implied : Implied (clauses_of rows) (HasLit by) t.steps t'.steps
