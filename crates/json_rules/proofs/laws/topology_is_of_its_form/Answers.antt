use Rattle.topology_text.specs.Reading.{topology_of}
use Rattle.json_values.specs.TopologyForm.{topology}
use Rattle.json_rules.proofs.ReadJson.{read_alike}
use Rattle.json_rules.proofs.laws.topology_is_of_its_form.Goals as goal

pub returns : goal.returns
returns c names = read_alike (topology names) topology_of
