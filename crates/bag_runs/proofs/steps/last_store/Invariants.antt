use Rattle.bag_runs.proofs.Stepping.{IsAfter}
use Rattle.bag_runs.proofs.steps.last_store.Given as goal

abbrev pub invariant-loop-step : goal.invariant-loop-step
invariant-loop-step l = IsAfter l.fn.start l.schedule l.adding l.last l.step
