use Rattle.std.proofs.Common.{◌≡◌, take}
use Rattle.schedule.specs.Running.{step_of}
use Rattle.schedule.proofs.run.joined.Given as goal

abbrev pub invariant-loop-hop : goal.invariant-loop-hop
invariant-loop-hop l = l.joined ≡ step_of (take l.hop-index l.hop-items) l.before l.step
