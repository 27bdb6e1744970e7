use Rattle.json_values.proofs.TopologyForm.{topology_form}
use Rattle.json_values.proofs.laws.topology_json_stands_for_its_text.Goals as goal

pub returns : goal.returns
returns c t named = topology_form t named
