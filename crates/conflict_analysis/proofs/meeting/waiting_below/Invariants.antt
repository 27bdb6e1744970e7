use Rattle.std.proofs.Common.{◌≤◌}
use Rattle.conflict_analysis.specs.Met.{value_of, IsPassed}
use Rattle.conflict_analysis.proofs.meeting.waiting_below.Given as goal

abbrev pub invariant-loop-from : goal.invariant-loop-from
invariant-loop-from l = record {
  under : l.place ≤ l.from;
  passed : IsPassed l.core l.mark (value_of l.walk) l.place;
}

abbrev pub decreases-loop-from : goal.decreases-loop-from
decreases-loop-from l = l.place
