use Rattle.candidate_order.proofs.Orders.{listed-within}
use Rattle.candidate_order.proofs.laws.listed_are_within.Goals as goal

pub returns : goal.returns
returns c = listed-within c.args.limits.now c.args.kind c.args.nodes c.args.step c.args.allowed.now c.requires.some_step c.requires.step c.requires.allowed
