use Rattle.json_values.proofs.Size.{size_of_value}
use Rattle.json_values.proofs.laws.value_is_no_larger_than_its_bytes.Goals as goal

pub returns : goal.returns
returns c = size_of_value
