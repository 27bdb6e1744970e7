use Rattle.std.{proofs.Common.{◌≡◌, map}, specs.List.range_with_len}
use Rattle.schedule.specs.Running.{after}
use Rattle.schedule.proofs.run.run_steps.Given as goal

abbrev pub invariant-loop-step : goal.invariant-loop-step
invariant-loop-step l = (l.held ≡ after l.pre l.schedule l.step) × (l.run.items ≡ map (after l.pre l.schedule) (range_with_len 0 l.step))
