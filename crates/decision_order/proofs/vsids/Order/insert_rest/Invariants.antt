use Rattle.std.proofs.Common.{◌≡◌}
use Rattle.decision_order.proofs.vsids.Order.insert_rest.Given as goal

abbrev pub invariant-loop-index : goal.invariant-loop-index
invariant-loop-index l = l.self ≡ l.initial.self
