use Rattle.std.proofs.Common.{arith}
use Rattle.trail_core.proofs.propagate.another_in.Goals as goal

pub is_false-requires : goal.is_false-requires
is_false-requires c = (rw (← c.index-clause-place.is) at (c.requires.about c.loop-place.place c.index-clause-place.result (omega (arith, c.loop-place-test.true, c.requires.to)))).within
