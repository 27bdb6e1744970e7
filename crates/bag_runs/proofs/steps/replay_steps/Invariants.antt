use Rattle.bag_runs.proofs.Stepping.{HasCome}
use Rattle.bag_runs.proofs.steps.replay_steps.Given as goal

abbrev pub invariant-loop-step : goal.invariant-loop-step
invariant-loop-step l = HasCome l.start l.schedule l.adding l.held l.run.items l.step
