use Rattle.std.proofs.Common.{◌≡◌, map, take}
use Rattle.serde_json.specs.View.{view}
use Rattle.json_values.specs.TopologyForm.{group}
use Rattle.json_values.proofs.topology_printing.groups_json.Given as goal

abbrev pub invariant-loop-group : goal.invariant-loop-group
invariant-loop-group l = map view l.list.items ≡ map (group l.names).json (take l.group-index l.groups)
