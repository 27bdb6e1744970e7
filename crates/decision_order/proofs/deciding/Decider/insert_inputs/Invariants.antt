use Rattle.std.proofs.Common.{◌≡◌}
use Rattle.decision_order.proofs.deciding.Decider.insert_inputs.Given as goal

abbrev pub invariant-loop-lit : goal.invariant-loop-lit
invariant-loop-lit l = l.self ≡ l.initial.self
