use Rattle.std.proofs.Common.{◌≡◌, length}
use Rattle.decision_order.proofs.inputs.mark_inputs.Given as goal

abbrev pub invariant-loop-lit : goal.invariant-loop-lit
invariant-loop-lit l = length l.inputs.items ≡ length l.initial.inputs.items
