use Rattle.std.proofs.{Common.arith, lemmas.List.take_all}
use Rattle.sleeping_clauses.{specs.Sleeping.IsCover, proofs.Found.none_more}
use Rattle.sleeping_clauses.proofs.sleepers.marked_among.Goals as goal

pub loop-led-preserved : goal.loop-led-preserved
loop-led-preserved c = none_more (IsCover c.args.clauses.now c.args.asleep.now c.args.marks.now c.args.stamp) c.args.list.now c.loop-led.led-index c.led-item.result c.loop-led-test.true c.led-item.is c.loop-led.invariant (c.covers.ensures.other c.if-covers.false)

pub returns : goal.returns
returns c = grind (arith, take_all)
