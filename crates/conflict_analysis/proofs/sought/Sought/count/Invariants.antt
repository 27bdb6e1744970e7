use Rattle.std.proofs.Common.{length, ◌-◌}
use Rattle.conflict_analysis.proofs.sought.Sought.count.Given as goal

abbrev pub decreases-loop-self : goal.decreases-loop-self
decreases-loop-self l = length l.lits - l.self.counted
