-- Walks down the trail, on which steps that wait are taken for their reasons.
use Rattle.std.specs.Prelude.{◌≡◌, ◌≢◌, ℕ, ◌+◌, ◌<◌, ◌≤◌, [], ◌++◌, ◌∷◌, length, get_or, set, take, pos}
use Rattle.trail_core.specs.{Formed.IsTrail, Kept.IsDue, Meaning.CoreValue, Search.IsImplied}
use Rattle.conflict_analysis.specs.Met.{WalkValue, step_at, lit_at, mark_of, IsSeen, AreMarks, AreKept, AreNoted, IsSorted, HasMet, IsPassed, IsOnward, waiting}

-- the step at a place is the highest one of a kind that waits
pub record IsNext (core : CoreValue) (kind : ℕ) (w : WalkValue) (place : ℕ) : Type 0 where
  pub within : place < length core.trail
  pub waits : mark_of w (lit_at core place) ≡ w.stamp + kind
  pub passed : IsPassed core kind w (place + 1)

-- the step at a place is implied and was met, but not taken for its reason; of the others so many wait as are counted
pub record IsStep (core : CoreValue) (w : WalkValue) (place : ℕ) : Type 0 where
  pub formed : IsTrail core.vars core.trail core.limits
  pub within : place < length core.trail
  pub implied : IsImplied core.clauses (IsDue core.limits) (take place core.trail) (step_at core place)
  pub marked : AreMarks core w.stamp w.marks
  pub kept : AreKept core w.stamp w.marks w.lits
  pub noted : AreNoted core w.stamp w.marks w.met_places
  pub met : IsSeen w (lit_at core place)
  pub new : mark_of w (lit_at core place) ≢ w.stamp + 2
  pub open_ : w.open_ ≡ waiting (w.stamp + 1) (set w.marks (lit_at core place).var (w.stamp + 2))
  pub zeros : w.zeros ≡ waiting (w.stamp + 3) (set w.marks (lit_at core place).var (w.stamp + 2))

-- what the walk knows once this step was taken
abbrev pub without : CoreValue → WalkValue → ℕ → ℕ → WalkValue
without core w place reason = record w { marks = set w.marks (lit_at core place).var (w.stamp + 2); hints = w.hints ++ pos (reason + 1) ∷ [] }

-- the step at a place was taken for its reason, whose literals were met
pub record IsTaken (core : CoreValue) (place : ℕ) (w w' : WalkValue) : Type 0 where
  pub step : IsStep core w place
  pub met : HasMet core (get_or core.clauses step.implied.id []) (without core w place step.implied.id) w'

-- the walk went on down to a place
pub record HasWalked (core : CoreValue) (kind : ℕ) (w w' : WalkValue) (place : ℕ) : Type 0 where
  pub within : place ≤ length core.trail
  pub sorted : IsSorted core w'
  pub onward : IsOnward w w'
  pub passed : IsPassed core kind w' place

-- of the last level the same steps wait
pub record HasSameOpen (core : CoreValue) (w w' : WalkValue) : Type 0 where
  pub before : (k : ℕ) → k < length core.trail → mark_of w' (lit_at core k) ≡ w'.stamp + 1 → mark_of w (lit_at core k) ≡ w.stamp + 1
  pub after : (k : ℕ) → k < length core.trail → mark_of w (lit_at core k) ≡ w.stamp + 1 → mark_of w' (lit_at core k) ≡ w'.stamp + 1

-- no step from a place on was taken for its reason
pub record HasSameAbove (core : CoreValue) (from : ℕ) (w w' : WalkValue) : Type 0 where
  pub above : (k : ℕ) → k < length core.trail → from ≤ k → mark_of w' (lit_at core k) ≡ w'.stamp + 2 → mark_of w (lit_at core k) ≡ w.stamp + 2
