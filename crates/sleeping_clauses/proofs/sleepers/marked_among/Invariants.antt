use Rattle.std.proofs.Common.{take, Contains}
use Rattle.sleeping_clauses.specs.{declared.sleepers.Led.Led, Sleeping.IsCover}
use Rattle.sleeping_clauses.proofs.sleepers.marked_among.Given as goal

abbrev pub invariant-loop-led : goal.invariant-loop-led
invariant-loop-led l = (led : Led) → Contains (take l.led-index l.list) led → IsCover l.clauses l.asleep l.marks l.stamp led → ⊥
