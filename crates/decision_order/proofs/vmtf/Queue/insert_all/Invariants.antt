use Rattle.std.proofs.Common.{◌+◌, ◌<◌}
use Rattle.decision_order.proofs.vmtf.Queue.insert_all.Given as goal

abbrev pub invariant-loop-lit : goal.invariant-loop-lit
invariant-loop-lit l = l.next < l.self-inside.vars + 1
