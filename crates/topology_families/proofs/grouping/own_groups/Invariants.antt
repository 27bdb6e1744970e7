use Rattle.std.proofs.Common.{◌≡◌, if◌then◌else◌, map, take}
use Rattle.topology_families.specs.Family.{mesh_group, single}
use Rattle.topology_families.proofs.grouping.own_groups.Given as goal

abbrev pub invariant-loop-from : goal.invariant-loop-from
invariant-loop-from l = l.groups.items ≡ map (if l.mesh then mesh_group else single) (take l.from-index l.links)
