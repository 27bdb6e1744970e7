use Rattle.std.proofs.Common.{◌≡◌, ◌++◌, map, take}
use Rattle.node_programs.specs.Queues.{empty_queue}
use Rattle.node_programs.proofs.queues.push_queues.Given as goal

abbrev pub invariant-loop-count : goal.invariant-loop-count
invariant-loop-count l = l.queues.items ≡ l.initial.queues.items ++ map empty_queue (take l.count-index l.count-items)
