use Rattle.json_values.proofs.{Short.text_short, TopologyShort.topology_short}
use Rattle.json_values.proofs.laws.text_of_topology_json_is_short.Goals as goal

pub returns : goal.returns
returns c = text_short 440 topology_short
