use Rattle.std.{proofs.Common.{◌≡◌, map}, specs.List.range_with_len}
use Rattle.topology_families.specs.Family.{numbered_name}
use Rattle.topology_families.proofs.families.numbered_names.Given as goal

abbrev pub invariant-loop-node : goal.invariant-loop-node
invariant-loop-node l = l.names.items ≡ map numbered_name (range_with_len 0 l.node)
