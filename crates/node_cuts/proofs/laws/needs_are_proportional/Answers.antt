use Rattle.node_cuts.proofs.Tabled.{times_more}
use Rattle.node_cuts.proofs.laws.needs_are_proportional.Goals as goal

pub returns : goal.returns
returns c = times_more
