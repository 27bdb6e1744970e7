use Rattle.std.proofs.Common.{◌≡◌, map, take}
use Rattle.schedule.specs.Links.{reversed_group}
use Rattle.schedule.proofs.topology.Topology.reversed.Given as goal

abbrev pub invariant-loop-group : goal.invariant-loop-group
invariant-loop-group l = l.groups.items ≡ map reversed_group (take l.group-index l.self.groups)
