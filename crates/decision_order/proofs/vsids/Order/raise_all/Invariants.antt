use Rattle.std.proofs.Common.{◌≡◌}
use Rattle.decision_order.proofs.vsids.Order.raise_all.Given as goal

abbrev pub invariant-loop-lit : goal.invariant-loop-lit
invariant-loop-lit l = l.self ≡ l.initial.self
