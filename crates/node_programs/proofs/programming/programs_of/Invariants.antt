use Rattle.std.proofs.Common.{◌≡◌}
use Rattle.node_programs.proofs.Pushing.{each, first_steps}
use Rattle.node_programs.proofs.programming.programs_of.Given as goal

abbrev pub invariant-loop-step : goal.invariant-loop-step
invariant-loop-step l = l.programs.items ≡ each l.nodes (first_steps l.schedule l.adding l.step)
