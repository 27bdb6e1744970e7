use Rattle.std.proofs.Common.{◌-◌, ◌≤◌, get_or}
use Rattle.conflict_analysis.specs.{Met.value_of, inner.Walks.{HasWalked, HasSameOpen}}
use Rattle.conflict_analysis.proofs.shrinking.walk_level.Given as goal

abbrev pub invariant-loop-walk : goal.invariant-loop-walk
invariant-loop-walk l = record {
  under : l.place ≤ get_or l.core.limits l.level 0;
  above : get_or l.core.limits (l.level - 1) 0 ≤ l.place;
  walked : HasWalked l.core 3 (value_of l.fn.walk) (value_of l.walk) l.place;
  same : HasSameOpen l.core (value_of l.fn.walk) (value_of l.walk);
}

abbrev pub decreases-loop-walk : goal.decreases-loop-walk
decreases-loop-walk l = l.place
