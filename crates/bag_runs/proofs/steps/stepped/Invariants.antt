use Rattle.std.proofs.Common.{◌≡◌, take}
use Rattle.bag_runs.{specs.Stores.mode_at, proofs.Arriving.arrived}
use Rattle.bag_runs.proofs.steps.stepped.Given as goal

abbrev pub invariant-loop-hop : goal.invariant-loop-hop
invariant-loop-hop l = l.after ≡ arrived (mode_at l.adding l.step) l.before l.before (take l.hop-index l.hop-items)
