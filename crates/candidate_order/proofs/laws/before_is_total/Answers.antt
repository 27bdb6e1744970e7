use Rattle.candidate_order.proofs.Orders.{Before-total}
use Rattle.candidate_order.proofs.laws.before_is_total.Goals as goal

pub returns : goal.returns
returns c = Before-total c.args.a c.args.b c.requires.chunks.0 c.requires.chunks.1
