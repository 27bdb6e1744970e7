use Rattle.std.proofs.Common.{◌≡◌}
use Rattle.decision_order.proofs.vmtf.Queue.bump_all.Given as goal

abbrev pub invariant-loop-place : goal.invariant-loop-place
invariant-loop-place l = l.self ≡ l.initial.self
