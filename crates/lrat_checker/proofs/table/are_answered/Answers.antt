use Rattle.std.proofs.{Common.arith, lemmas.List.{drop_more, drop_all}}
use Rattle.lrat_checker.proofs.table.are_answered.Goals as goal

pub returns-then-not-is_answered : goal.returns-then-not-is_answered
returns-then-not-is_answered c = grind (arith, drop_more)

pub loop-place-preserved : goal.loop-place-preserved
loop-place-preserved c = grind (arith, drop_more)

pub returns : goal.returns
returns c = grind (arith, drop_all c.loop-place.place-index c.args.list.now c.loop-place-test.false)
