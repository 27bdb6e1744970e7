use Rattle.std.proofs.Common.{◌≡◌, length}
use Rattle.decision_order.proofs.deciding.Decider.keep_values.Given as goal

abbrev pub invariant-loop-lit : goal.invariant-loop-lit
invariant-loop-lit l = record {
  vars : l.self-inside.vars ≡ l.initial.self-inside.vars;
  order : l.self-inside.order ≡ l.self-inside.vars;
  queue : l.self-inside.queue ≡ l.initial.self-inside.queue;
  phases : length l.self-inside.phases.items ≡ length l.initial.self-inside.phases.items;
}
