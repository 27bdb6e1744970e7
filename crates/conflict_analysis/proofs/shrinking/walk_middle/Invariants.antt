use Rattle.std.proofs.Common.{◌-◌, ◌<◌, ◌≤◌, length, get_or}
use Rattle.conflict_analysis.specs.{Met.value_of, inner.Walks.{HasWalked, HasSameOpen}}
use Rattle.conflict_analysis.proofs.shrinking.walk_middle.Given as goal

abbrev pub invariant-loop-level : goal.invariant-loop-level
invariant-loop-level l = record {
  some : 0 < l.level;
  within : l.level ≤ length l.core.limits;
  walked : HasWalked l.core 3 (value_of l.initial.walk) (value_of l.walk) (get_or l.core.limits (l.level - 1) 0);
  same : HasSameOpen l.core (value_of l.initial.walk) (value_of l.walk);
}

abbrev pub decreases-loop-level : goal.decreases-loop-level
decreases-loop-level l = l.level
