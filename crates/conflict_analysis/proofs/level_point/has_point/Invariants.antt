use Rattle.std.proofs.Common.{◌≤◌}
use Rattle.conflict_analysis.proofs.level_point.has_point.Given as goal

abbrev pub invariant-loop-open : goal.invariant-loop-open
invariant-loop-open l = l.place ≤ l.to

abbrev pub decreases-loop-open : goal.decreases-loop-open
decreases-loop-open l = l.place
