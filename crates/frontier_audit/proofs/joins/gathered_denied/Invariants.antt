use Rattle.std.specs.Prelude.{None, take}
use Rattle.frontier_audit.specs.inner.Steps.{JoinsSay, pairs_with}
use Rattle.frontier_audit.proofs.joins.gathered_denied.Given as goal

abbrev pub invariant-loop-second : goal.invariant-loop-second
invariant-loop-second l = JoinsSay l.topology (pairs_with l.first (take l.second-index l.gather)) l.joined l.fn.place l.place None
