use Rattle.std.proofs.Common.{arith}
use Rattle.link_faults.proofs.laws.carrying_is_an_order.Goals as goal

pub returns : goal.returns
returns c = grind arith
