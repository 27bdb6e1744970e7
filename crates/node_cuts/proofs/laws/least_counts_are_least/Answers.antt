use Rattle.node_cuts.proofs.Least.{least_allowed, least_least}
use Rattle.node_cuts.proofs.laws.least_counts_are_least.Goals as goal

pub returns : goal.returns
returns c = record { allowed = least_allowed; least = least_least }
