use Rattle.std.proofs.Common.{◌≡◌}
use Rattle.sleeping_clauses.proofs.sleepers.Sleepers.learn.Given as goal

abbrev pub invariant-loop-lit : goal.invariant-loop-lit
invariant-loop-lit l = l.self-inside ≡ record l.initial.self-inside { common = l.self-inside.common }
