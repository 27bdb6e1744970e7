use Rattle.std.proofs.Common.{◌≡◌, ◌++◌, map, take}
use Rattle.topology_families.specs.Family.{cable}
use Rattle.topology_families.proofs.grouping.push_cables.Given as goal

abbrev pub invariant-loop-from : goal.invariant-loop-from
invariant-loop-from l = l.groups.items ≡ l.initial.groups.items ++ map (cable l.links) (take l.from-index l.cables)
