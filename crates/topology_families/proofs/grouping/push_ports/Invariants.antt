use Rattle.std.{proofs.Common.{◌≡◌, ◌++◌, if◌then◌else◌, map}, specs.List.range_with_len}
use Rattle.topology_families.specs.Family.{port}
use Rattle.topology_families.proofs.grouping.push_ports.Given as goal

abbrev pub invariant-loop-node : goal.invariant-loop-node
invariant-loop-node l = l.groups.items ≡ l.initial.groups.items ++ map (port (λ link. if l.out then link.0 else link.1) l.links) (range_with_len 0 l.node)
