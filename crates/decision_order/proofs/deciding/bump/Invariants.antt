use Rattle.std.proofs.Common.{◌≡◌}
use Rattle.decision_order.proofs.deciding.bump.Given as goal

abbrev pub invariant-loop-lit : goal.invariant-loop-lit
invariant-loop-lit l = l.queue ≡ l.initial.queue
