use Rattle.candidate_order.proofs.Orders.{Before-trans}
use Rattle.candidate_order.proofs.laws.before_is_transitive.Goals as goal

pub returns : goal.returns
returns c = Before-trans c.args.a c.args.b c.args.c c.requires.chunks.0 c.requires.chunks.1 c.requires.chunks.2 c.requires.first c.requires.second
