use Rattle.std.specs.Prelude.{None, take}
use Rattle.allreduce_join.specs.Joins.{pairs_of}
use Rattle.frontier_audit.specs.inner.Steps.{JoinsSay}
use Rattle.frontier_audit.proofs.joins.pairs_denied.Given as goal

abbrev pub invariant-loop-first : goal.invariant-loop-first
invariant-loop-first l = JoinsSay l.topology (pairs_of (take l.first-index l.reduce) l.gather) l.joined 0 l.place None
