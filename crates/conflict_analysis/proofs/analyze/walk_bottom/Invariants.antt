use Rattle.std.proofs.Common.{◌≤◌}
use Rattle.conflict_analysis.specs.{Met.value_of, inner.Walks.{HasWalked, HasSameOpen, HasSameAbove}}
use Rattle.conflict_analysis.proofs.analyze.walk_bottom.Given as goal

abbrev pub invariant-loop-walk : goal.invariant-loop-walk
invariant-loop-walk l = record {
  under : l.place ≤ l.from;
  walked : HasWalked l.core 3 (value_of l.initial.walk) (value_of l.walk) l.place;
  same : HasSameOpen l.core (value_of l.initial.walk) (value_of l.walk);
  above : HasSameAbove l.core l.from (value_of l.initial.walk) (value_of l.walk);
}

abbrev pub decreases-loop-walk : goal.decreases-loop-walk
decreases-loop-walk l = l.place
