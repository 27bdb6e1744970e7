-- Places between level 0 and the last level.
use Rattle.std.proofs.{lemmas.{Bool.{Decides.nat_tests}, Grind.common_steps}, Common.{ℕ, ◌-◌, ◌<◌, ◌≤◌, length, get_or, arith}}
use Rattle.trail_core.specs.{Assigned.level_at, Meaning.CoreValue, Formed.IsTrail}
use Rattle.conflict_analysis.{specs.{Met.{WalkValue, IsSorted, IsPassed}, inner.Walks.HasWalked}, proofs.{Levels.limits_rise, Marked.level_within, Pointed.{high_place, bottom_place}}}

-- a place of a level below the last that is not level 0
pub record IsMiddle (core : CoreValue) (k : ℕ) : Type 0 where
  pub within : k < length core.trail
  pub lower : level_at core.limits k < length core.limits

pub middle_at : (core : CoreValue) (level k : ℕ) → IsTrail core.vars core.trail core.limits → level < length core.limits → k < get_or core.limits level 0 → IsMiddle core k
middle_at core level k t below lt = grind (arith, limits_rise core.limits (length core.trail) level (length core.limits - 1) t.levels, t.levels.below level below, high_place core.limits (length core.limits - 1) k, level_within core k)

-- no step of level 0 waits at any lower place above level 0
pub passed_lower : (core : CoreValue) (w : WalkValue) (low from to : ℕ) → IsTrail core.vars core.trail core.limits → low < length core.limits → get_or core.limits low 0 ≤ to → to ≤ from → IsSorted core w → IsPassed core 3 w from → IsPassed core 3 w to
passed_lower core w low from to t below above le s p = grind (arith, nat_tests, common_steps, limits_rise, bottom_place)

pub walked_lower : (core : CoreValue) (a w : WalkValue) (low from to : ℕ) → IsTrail core.vars core.trail core.limits → low < length core.limits → get_or core.limits low 0 ≤ to → to ≤ from → HasWalked core 3 a w from → HasWalked core 3 a w to
walked_lower core a w low from to t below above le h = record { within = omega (arith, le, h.within); sorted = h.sorted; onward = h.onward; passed = passed_lower core w low from to t below above le h.sorted h.passed }
