use Rattle.std.proofs.Common.{◌≡◌, Some, ap, ◌∙◌, rules}
use Rattle.topology_text.specs.Spelling.{spelling}
use Rattle.json_values.{specs.TopologyJson.topology_text_in, proofs.Standing.stands_for}
use Rattle.json_values.proofs.topology_reading.topology_from_json.Goals as goal

pub returns-in-Ok-read_topology-clause-found : goal.returns-in-Ok-read_topology-clause-found
returns-in-Ok-read_topology-clause-found c =
    let (d, is, text) = stands_for topology_text_in c.args.bytes.now c.in-Ok.text.items c.in-Ok.ensures in
    let topology = c.in-Ok-read_topology.topology in
    let read = c.in-Ok-read_topology.ensures.found in
    let same : c.in-Ok.text.items ≡ spelling topology = search rules in
    (read.0, d, is, text ∙ ap Some same)
