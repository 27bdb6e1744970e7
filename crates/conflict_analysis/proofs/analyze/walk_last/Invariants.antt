use Rattle.std.proofs.Common.{◌<◌}
use Rattle.conflict_analysis.specs.{Met.value_of, inner.Walks.HasWalked}
use Rattle.conflict_analysis.proofs.analyze.walk_last.Given as goal

abbrev pub invariant-loop-walk : goal.invariant-loop-walk
invariant-loop-walk l = record {
  some : 0 < l.walk.open_;
  walked : HasWalked l.core 1 (value_of l.initial.walk) (value_of l.walk) l.place;
}

abbrev pub decreases-loop-walk : goal.decreases-loop-walk
decreases-loop-walk l = l.place
