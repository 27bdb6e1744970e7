use Rattle.bag_runs.proofs.Counting.{held_one}
use Rattle.bag_runs.proofs.bag.Bag.one_of.Goals as goal

pub invariant_of-result : goal.invariant_of-result
invariant_of-result c = held_one c.args.node c.requires
