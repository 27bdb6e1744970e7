-- What a core keeps in its fields.
use Rattle.std.specs.Prelude.{◌≡◌, ◌⊎◌, ℕ, ◌<◌, ◌≤◌, List, [], ◌∷◌, ◌++◌, None, Contains, All, length, get_or, take}
use Rattle.cnf_formula.specs.Literals.{LitValue, negation, code_of}
use Rattle.trail_core.specs.{Assigned.{IsFalse, level_at}, Trails.{StepValue, TrailValue, lits_of}, Watching.{RowValue, ListsValue, watch_count, row_at}}
use Rattle.trail_core.specs.{Meaning.{CoreValue, trues, IsClosed}, Search.{IsSatisfied, IsUnit, IsImplied, CanScan, clauses_of}}

-- a clause that watches a literal false in the first list is satisfied in the second
abbrev pub Excused : List RowValue → List LitValue → List LitValue → Type 0
Excused rows falses trues = (e : ℕ) (l : LitValue) → 0 < watch_count (row_at rows e) (code_of l) → IsFalse falses l → IsSatisfied trues (row_at rows e).lits

-- each clause of less than two literals is satisfied
abbrev pub ShortTrue : List RowValue → List LitValue → Type 0
ShortTrue rows trues = (e : ℕ) → e < length rows → length (row_at rows e).lits ≤ 1 → IsSatisfied trues (row_at rows e).lits

-- the present level is 0, or a literal of the clause is false on the present level
abbrev pub IsDue : List ℕ → List StepValue → List LitValue → Type 0
IsDue limits before clause =
    (level_at limits (length before) ≡ 0) ⊎ ((o : LitValue) × (p : ℕ) × Contains clause o × (p < length before) × (get_or (lits_of before) p o ≡ negation o) × (level_at limits p ≡ level_at limits (length before)))

-- a step is a decision, the first of its level, or is implied by a clause
abbrev pub IsGrounded : List (List LitValue) → List ℕ → List StepValue → StepValue → Type 0
IsGrounded clauses limits before step = ((step.reason ≡ None) × Contains limits (length before)) ⊎ IsImplied clauses (IsDue limits) before step

-- a clause of less than two literals
pub record IsShort (rows : List RowValue) (e : ℕ) : Type 0 where
  pub within : e < length rows
  pub short : length (row_at rows e).lits ≤ 1

pub record IsKept (rows : List RowValue) (w : ListsValue) (t : TrailValue) (head : ℕ) (short : List ℕ) : Type 0 where
  pub can : CanScan rows w t
  pub head_within : head ≤ length t.steps
  -- a false literal that a clause watches has its clause satisfied, or still waits on the trail
  pub excused : Excused rows (take head (lits_of t.steps)) (lits_of t.steps)
  -- what waits is of the present level, and the levels below are done
  pub head_above : (j : ℕ) → j < length t.limits → get_or t.limits j 0 ≤ head
  pub settled : (j : ℕ) → j < length t.limits → Excused rows (take (get_or t.limits j 0) (lits_of t.steps)) (take (get_or t.limits j 0) (lits_of t.steps))
  pub short_known : (e : ℕ) → e < length rows → length (row_at rows e).lits ≤ 1 → Contains short e
  pub short_within : All (IsShort rows) short
  pub grounded : (k : ℕ) (d : StepValue) → k < length t.steps → IsGrounded (clauses_of rows) t.limits (take k t.steps) (get_or t.steps k d)
  pub short_true : (j : ℕ) → j < length t.limits → ShortTrue rows (take (get_or t.limits j 0) (lits_of t.steps))

-- a clause was added
pub record IsHeld (rows : List RowValue) (clause : List LitValue) (rows' : List RowValue) : Type 0 where
  pub row : RowValue
  pub lits : row.lits ≡ clause
  pub is : rows' ≡ rows ++ row ∷ []

-- all of the trail was propagated
pub record IsDone (rows : List RowValue) (t : TrailValue) (head : ℕ) : Type 0 where
  pub all : head ≡ length t.steps
  pub short : ShortTrue rows (lits_of t.steps)
  pub closed : IsClosed (lits_of t.steps) (clauses_of rows)

-- the literal became false on the present level
pub record IsRecent (t : TrailValue) (l : LitValue) : Type 0 where
  pub place : ℕ
  pub within : place < length t.steps
  pub here : get_or (lits_of t.steps) place l ≡ negation l
  pub level : level_at t.limits place ≡ length t.limits

-- the level is 0, or the clause has one literal open and the others false, one of them on the present level
abbrev pub CanAddTo : TrailValue → List LitValue → Type 0
CanAddTo t clause = (length t.limits ≡ 0) ⊎ ((l : LitValue) × (o : LitValue) × IsUnit (lits_of t.steps) clause l × Contains clause o × IsRecent t o)

abbrev pub CanAdd : CoreValue → List LitValue → Type 0
CanAdd c clause = CanAddTo (record { vars = c.vars; steps = c.trail; limits = c.limits }) clause

-- each step is a decision, the first of its level, or implied by a clause whose other literals became false before it
abbrev pub AreGrounded : CoreValue → Type 0
AreGrounded c = (k : ℕ) (d : StepValue) → k < length c.trail → IsGrounded c.clauses c.limits (take k c.trail) (get_or c.trail k d)
