use Rattle.std.proofs.{Common.arith, lemmas.List.{take_more, length-take-le}}
use Rattle.lrat_checker.proofs.Placed.{enumerate-push}
use Rattle.lrat_checker.proofs.table.ClauseTable.new.Goals as goal

pub loop-place-preserved : goal.loop-place-preserved
loop-place-preserved c = grind (arith, take_more, length-take-le, enumerate-push 1)
