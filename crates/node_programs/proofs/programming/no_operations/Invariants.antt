use Rattle.std.{proofs.Common.{◌≡◌, [], map}, specs.List.range_with_len}
use Rattle.node_programs.proofs.programming.no_operations.Given as goal

abbrev pub invariant-loop-node : goal.invariant-loop-node
invariant-loop-node l = l.programs.items ≡ map (λ node. []) (range_with_len 0 l._node)
