use Rattle.std.proofs.Common.{◌≡◌}
use Rattle.decision_order.proofs.deciding.Decider.pop_input.Given as goal

abbrev pub invariant-loop : goal.invariant-loop
invariant-loop l = l.self ≡ l.initial.self
