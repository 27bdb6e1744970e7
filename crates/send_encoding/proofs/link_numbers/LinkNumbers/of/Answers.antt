use Rattle.std.proofs.Common.{arith}
use Rattle.send_encoding.proofs.Places.{table_ends}
use Rattle.send_encoding.proofs.link_numbers.LinkNumbers.of.Goals as goal

pub invariant_of-result : goal.invariant_of-result
invariant_of-result c =
    table_ends c.args.links.items c.loop-place.numbers.items c.loop-place.place (omega (arith, c.loop-place-test.false, c.loop-place.auto.place-end)) c.loop-place.invariant
