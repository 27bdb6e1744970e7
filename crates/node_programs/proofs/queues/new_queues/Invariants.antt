use Rattle.std.proofs.Common.{◌≡◌, take}
use Rattle.node_programs.specs.Queues.{new_queues}
use Rattle.node_programs.proofs.queues.new_queues.Given as goal

abbrev pub invariant-loop-program : goal.invariant-loop-program
invariant-loop-program l = l.queues.items ≡ new_queues l.nodes (take l.program-index l.program-items)
