use Rattle.std.specs.Prelude.{◌≡◌, ◌++◌, take}
use Rattle.frontier_audit.specs.inner.Steps.{unrefuted_among}
use Rattle.frontier_audit.proofs.answered.push_unrefuted.Given as goal

abbrev pub invariant-loop-candidate : goal.invariant-loop-candidate
invariant-loop-candidate l = l.left.items ≡ l.fn.left.items ++ unrefuted_among l.refuted (take l.candidate-index l.candidates)
