use Rattle.std.proofs.Common.{◌≡◌, map, take}
use Rattle.serde_json.specs.View.{view}
use Rattle.json_values.specs.TopologyForm.{link}
use Rattle.json_values.proofs.topology_printing.links_json.Given as goal

abbrev pub invariant-loop-from : goal.invariant-loop-from
invariant-loop-from l = map view l.list.items ≡ map (link l.names).json (take l.from-index l.links)
