use Rattle.std.specs.Prelude.{◌≡◌, ◌++◌}
use Rattle.frontier_audit.{specs.{Candidates.candidates_within, inner.Steps.unrefuted_among}, proofs.Listing.from_step}
use Rattle.frontier_audit.proofs.answered.unrefuted.Given as goal

abbrev pub invariant-loop-step : goal.invariant-loop-step
invariant-loop-step l = l.left.items ++ unrefuted_among l.refuted (from_step l.asked l.step) ≡ unrefuted_among l.refuted (candidates_within l.asked)
