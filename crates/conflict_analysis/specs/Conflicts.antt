-- A core at a conflict.
use Rattle.std.specs.Prelude.{ℕ, ◌<◌, [], length, get_or}
use Rattle.trail_core.specs.{Search.IsFalsified, Meaning.{CoreValue, trues, IsClosedBelow}, Kept.AreGrounded, Formed.IsTrail}

-- a clause is falsified
pub record IsConflict (core : CoreValue) (conflict : ℕ) : Type 0 where
  pub grounded : AreGrounded core
  pub formed : IsTrail core.vars core.trail core.limits
  pub closed_below : IsClosedBelow core
  pub within : conflict < length core.clauses
  pub falsified : IsFalsified (trues core) (get_or core.clauses conflict [])
