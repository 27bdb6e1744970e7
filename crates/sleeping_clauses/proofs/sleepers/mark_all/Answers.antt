use Rattle.std.proofs.{Common.arith, lemmas.List.{take_all, length-set, Elements.All-contains}}
use Rattle.sleeping_clauses.proofs.Found.{marked_more}
use Rattle.sleeping_clauses.proofs.sleepers.mark_all.Goals as goal

pub loop-lit-preserved : goal.loop-lit-preserved
loop-lit-preserved c = grind (arith, All-contains, length-set, marked_more)

pub returns-clause-marked : goal.returns-clause-marked
returns-clause-marked c = grind (arith, take_all)
