-- What an analysis knows on its walk down the trail: of each variable what becomes of its literal, as a mark above a stamp.
use Rattle.std.specs.Prelude.{◌≡◌, ◌≢◌, ◌⊎◌, ◌↔◌, ◌==◌, ℕ, ◌+◌, ◌<◌, ◌≤◌, Bool, List, [], None, Some, Contains, AllPairs, length, get_or, take, count_by, filter, reverse, ℤ}
use Rattle.cnf_formula.specs.Literals.{LitValue}
use Rattle.trail_core.specs.{Assigned.{IsFalse, level_at}, Trails.{StepValue, lits_of}, Watching.no_lit, Meaning.{CoreValue, trues}}
use Rattle.conflict_analysis.specs.{declared.walk.Walk.Walk, Learning.hints_of, PlaceSets.HasPlace}

-- marks by variable, the stamp of this analysis, what is kept, the reasons that were taken, how many steps wait, and the places of what was met
pub record WalkValue : Type 0 where
  pub marks : List ℕ
  pub stamp : ℕ
  pub lits : List LitValue
  pub hints : List ℤ
  pub open_ : ℕ
  pub zeros : ℕ
  pub met_places : List ℕ

abbrev pub value_of : Walk → WalkValue
value_of w = record { marks = w.marks.items; stamp = w.stamp; lits = w.lits.items; hints = w.hints.items; open_ = w.open_; zeros = w.zeros; met_places = w.met_places }

abbrev pub no_step : StepValue
no_step = record { lit = no_lit; reason = None }

abbrev pub step_at : CoreValue → ℕ → StepValue
step_at core k = get_or core.trail k no_step

abbrev pub lit_at : CoreValue → ℕ → LitValue
lit_at core k = (step_at core k).lit

abbrev pub mark_of : WalkValue → LitValue → ℕ
mark_of w l = get_or w.marks l.var 0

-- the literal was met
abbrev pub IsSeen : WalkValue → LitValue → Type 0
IsSeen w l = w.stamp ≤ mark_of w l

-- the step was taken for its reason
abbrev pub resolved_by : WalkValue → StepValue → Bool
resolved_by w s = mark_of w s.lit == w.stamp + 2

-- marks are of literals on the trail: a literal that is kept (0) became false below the last level, one that waits as open (1) on it, and one that waits at the bottom (3) on level 0
pub record AreMarks (core : CoreValue) (stamp : ℕ) (marks : List ℕ) : Type 0 where
  pub len : length marks ≡ core.vars + 1
  pub over : (v : ℕ) → get_or marks v 0 ≤ stamp + 3
  pub placed : (v : ℕ) → stamp ≤ get_or marks v 0 → (k : ℕ) × (k < length core.trail) × ((lit_at core k).var ≡ v)
  pub low : (k : ℕ) → k < length core.trail → get_or marks (lit_at core k).var 0 ≡ stamp → level_at core.limits k < length core.limits
  pub top : (k : ℕ) → k < length core.trail → get_or marks (lit_at core k).var 0 ≡ stamp + 1 → (level_at core.limits k ≡ length core.limits) × (0 < length core.limits)
  pub bottom : (k : ℕ) → k < length core.trail → get_or marks (lit_at core k).var 0 ≡ stamp + 3 → level_at core.limits k ≡ 0

-- the false literals that are marked so are kept, each once; with them stand those whose steps were resolved since
pub record AreKept (core : CoreValue) (stamp : ℕ) (marks : List ℕ) (lits : List LitValue) : Type 0 where
  pub of : (o : LitValue) → Contains lits o → ((get_or marks o.var 0 ≡ stamp) ⊎ (get_or marks o.var 0 ≡ stamp + 2)) × IsFalse (trues core) o
  pub all : (o : LitValue) → IsFalse (trues core) o → get_or marks o.var 0 ≡ stamp → Contains lits o
  pub once : AllPairs (λ a b. a.var ≢ b.var) lits

-- the literals that are marked as kept still
abbrev pub left_of : ℕ → List ℕ → List LitValue → List LitValue
left_of stamp marks lits = filter (λ o. get_or marks o.var 0 == stamp) lits

-- in the set are the places of the literals that were met
pub record AreNoted (core : CoreValue) (stamp : ℕ) (marks places : List ℕ) : Type 0 where
  pub within : (k : ℕ) → HasPlace places k → k < length core.trail
  pub each : (k : ℕ) → k < length core.trail → HasPlace places k ↔ (stamp ≤ get_or marks (lit_at core k).var 0)

abbrev pub waiting : ℕ → List ℕ → ℕ
waiting mark marks = count_by (λ m. m == mark) marks

pub record IsSorted (core : CoreValue) (w : WalkValue) : Type 0 where
  pub marked : AreMarks core w.stamp w.marks
  pub kept : AreKept core w.stamp w.marks w.lits
  pub noted : AreNoted core w.stamp w.marks w.met_places
  pub open_ : w.open_ ≡ waiting (w.stamp + 1) w.marks
  pub zeros : w.zeros ≡ waiting (w.stamp + 3) w.marks

-- the literals of a clause were met, and what was met before stays as it was
pub record HasMet (core : CoreValue) (clause : List LitValue) (w w' : WalkValue) : Type 0 where
  pub sorted : IsSorted core w'
  pub stamp : w'.stamp ≡ w.stamp
  pub hints : w'.hints ≡ w.hints
  pub seen : (o : LitValue) → Contains clause o → IsSeen w' o
  pub stays : (v : ℕ) → w.stamp ≤ get_or w.marks v 0 → get_or w'.marks v 0 ≡ get_or w.marks v 0
  pub new : (v : ℕ) → w.stamp ≤ get_or w'.marks v 0 → (w.stamp ≤ get_or w.marks v 0) ⊎ ((o : LitValue) × Contains clause o × (o.var ≡ v) × (get_or w'.marks v 0 ≢ w.stamp + 2))
  pub more : w.open_ ≤ w'.open_

-- the step at a place has a reason, whose other literals were met and became false before it
pub record IsReasoned (core : CoreValue) (w : WalkValue) (k : ℕ) : Type 0 where
  pub id : ℕ
  pub reason : (step_at core k).reason ≡ Some id
  pub within : id < length core.clauses
  pub stands : Contains (get_or core.clauses id []) (lit_at core k)
  pub others : (o : LitValue) → Contains (get_or core.clauses id []) o → (o ≡ lit_at core k) ⊎ (IsSeen w o × IsFalse (lits_of (take k core.trail)) o)

-- from a place on the trail upwards no step of a kind waits; and steps were taken for their reasons there alone
pub record IsPassed (core : CoreValue) (kind : ℕ) (w : WalkValue) (place : ℕ) : Type 0 where
  pub each : (k : ℕ) → k < length core.trail → mark_of w (lit_at core k) ≡ w.stamp + 2 → (place ≤ k) × IsReasoned core w k
  pub waits : (k : ℕ) → k < length core.trail → mark_of w (lit_at core k) ≡ w.stamp + kind → k < place
  pub hints : reverse w.hints ≡ hints_of (resolved_by w) core.trail

-- the walk went on with its stamp, and what was met stays met
pub record IsOnward (w w' : WalkValue) : Type 0 where
  pub stamp : w'.stamp ≡ w.stamp
  pub seen : (o : LitValue) → IsSeen w o → IsSeen w' o

-- no mark is above those of the last analysis
pub record IsRested (vars stamp : ℕ) (marks : List ℕ) : Type 0 where
  pub len : length marks ≡ vars + 1
  pub below : (v : ℕ) → get_or marks v 0 < stamp + 4

-- the literal stands on the trail, and its step is the one of the last level that waits
pub record IsImplicationPoint (core : CoreValue) (w : WalkValue) (l : LitValue) : Type 0 where
  pub place : ℕ
  pub within : place < length core.trail
  pub is : lit_at core place ≡ l
  pub waits : mark_of w l ≡ w.stamp + 1
  pub only : (k : ℕ) → k < length core.trail → mark_of w (lit_at core k) ≡ w.stamp + 1 → k ≡ place
