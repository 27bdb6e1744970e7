use Rattle.std.{proofs.Common.{◌≡◌, map, take}, specs.List.range_with_len}
use Rattle.node_programs.specs.Queues.{sends_to}
use Rattle.node_programs.proofs.queues.send_counts.Given as goal

abbrev pub invariant-loop-place : goal.invariant-loop-place
invariant-loop-place l = l.counts.items ≡ map (λ node. sends_to node (take l.place l.ops)) (range_with_len 0 l.nodes)
