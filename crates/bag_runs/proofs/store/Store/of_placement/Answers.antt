use Rattle.bag_runs.proofs.Storing.{filled_of_placement}
use Rattle.bag_runs.proofs.store.Store.of_placement.Goals as goal

pub invariant_of-result : goal.invariant_of-result
invariant_of-result c = rw (c.chunks.ensures.chunks, c.nodes.ensures.nodes) (filled_of_placement c.args.placement.now c.in_ok-bags.bags.items c.in_ok-bags.ensures).0
