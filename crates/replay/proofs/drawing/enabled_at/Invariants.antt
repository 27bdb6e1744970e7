use Rattle.std.proofs.Common.{◌≡◌, ◌+◌, length}
use Rattle.node_programs.specs.Machines.{is_enabled}
use Rattle.replay.proofs.Drawn.{passing}
use Rattle.replay.proofs.drawing.enabled_at.Given as goal

abbrev pub invariant-loop-node : goal.invariant-loop-node
invariant-loop-node l = l.rank ≡ l.before + length (passing (is_enabled l.machine) l.node)
