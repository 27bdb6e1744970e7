use Rattle.std.proofs.Common.{◌≡◌, drop}
use Rattle.node_programs.specs.Stops.{stop_of}
use Rattle.replay.proofs.by_list.replay_by_list.Given as goal

abbrev pub invariant-loop-place : goal.invariant-loop-place
invariant-loop-place l = stop_of l.initial.machine l.nodes ≡ stop_of l.machine (drop l.place l.nodes)
