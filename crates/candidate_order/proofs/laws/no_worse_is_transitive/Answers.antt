use Rattle.candidate_order.proofs.Orders.{NoWorse-trans}
use Rattle.candidate_order.proofs.laws.no_worse_is_transitive.Goals as goal

pub returns : goal.returns
returns c = NoWorse-trans c.args.a c.args.b c.args.c c.requires.chunks c.requires.first c.requires.second
