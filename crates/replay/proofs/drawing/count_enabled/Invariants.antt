use Rattle.std.proofs.Common.{◌≡◌, ◌≤◌, length}
use Rattle.node_programs.specs.Machines.{is_enabled}
use Rattle.replay.proofs.Drawn.{passing}
use Rattle.replay.proofs.drawing.count_enabled.Given as goal

abbrev pub invariant-loop-node : goal.invariant-loop-node
invariant-loop-node l = record { counted : l.count ≡ length (passing (is_enabled l.machine) l.node); small : l.count ≤ l.node }
