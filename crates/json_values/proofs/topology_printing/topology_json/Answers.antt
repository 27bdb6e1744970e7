use Rattle.std.proofs.Common.{ap, ◌∙◌}
use Rattle.serde_json.specs.View.{view}
use Rattle.json_values.{specs.{Answer.topology_of_json, TopologyJson.topology_json}, proofs.{Built.{plain_topology, topology_back}, Plain.shown_is}}
use Rattle.json_values.proofs.topology_printing.topology_json.Goals as goal

pub returns : goal.returns
returns c =
    let t = c.args.value.now in
    let made = c.in_ok-topology_value.ensures in
    let shown = shown_is (view c.in_ok-topology_value.field-0) (topology_json t) c.in_ok-out.out.items c.push.new.self.items made.json (plain_topology t made.limits) c.in_ok-out.ensures.text c.in_ok-push.ensures.items in
    record { printed = shown; read_back = ap topology_of_json shown ∙ topology_back t made.limits }
