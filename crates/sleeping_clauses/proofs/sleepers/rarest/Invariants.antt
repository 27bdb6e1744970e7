use Rattle.std.specs.Prelude.{Contains}
use Rattle.sleeping_clauses.proofs.sleepers.rarest.Given as goal

abbrev pub invariant-loop-lit : goal.invariant-loop-lit
invariant-loop-lit l = Contains l.lits l.best
