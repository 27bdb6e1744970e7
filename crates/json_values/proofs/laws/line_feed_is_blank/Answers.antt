use Rattle.json_values.proofs.Blank.{same_value}
use Rattle.json_values.proofs.laws.line_feed_is_blank.Goals as goal

pub returns : goal.returns
returns c = same_value
