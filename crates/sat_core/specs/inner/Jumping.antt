-- What is learned above level 0, the levels of its literals, and the core after it was gone back.
use Rattle.std.specs.Prelude.{◌≡◌, ◌≢◌, ℕ, ◌-◌, ◌<◌, ◌≤◌, List, AllPairs, Contains, length, get_or, take}
use Rattle.cnf_formula.specs.Literals.{LitValue, negation}
use Rattle.trail_core.specs.{Meaning.{CoreValue, trues}, Assigned.{IsFalse, level_at}}
use Rattle.conflict_analysis.specs.{Met.lit_at, Learned.IsPointed}

-- what a clause has that is learned above level 0, by its meaning alone
pub record IsBacked (core : CoreValue) (clause : List LitValue) : Type 0 where
  pub pointed : IsPointed core clause
  pub once : AllPairs (λ a b. a.var ≢ b.var) clause
  pub falses : (o : LitValue) → Contains clause o → IsFalse (trues core) o

-- one of the literals became false on a level
pub record HasLevel (core : CoreValue) (lits : List LitValue) (level : ℕ) : Type 0 where
  pub lit : LitValue
  pub stands : Contains lits lit
  pub place : ℕ
  pub within : place < length core.trail
  pub is : lit_at core place ≡ negation lit
  pub at : level_at core.limits place ≡ level

-- none of them became false above it
abbrev pub AreUpTo : CoreValue → List LitValue → ℕ → Type 0
AreUpTo core lits level = (o : LitValue) (k : ℕ) → Contains lits o → k < length core.trail → lit_at core k ≡ negation o → level_at core.limits k ≤ level

-- all but the last
abbrev pub front_of : List LitValue → List LitValue
front_of lits = take (length lits - 1) lits

-- the core after the levels from a number on were taken back
abbrev pub gone_back : CoreValue → ℕ → CoreValue
gone_back core level = record core { trail = take (get_or core.limits level 0) core.trail; limits = take level core.limits }
