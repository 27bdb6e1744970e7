use Rattle.std.proofs.{Common.arith, lemmas.List.FromFn.length-range_with_len}
use Rattle.sleeping_clauses.proofs.Listed.{range_more}
use Rattle.sleeping_clauses.proofs.awake.Awake.of_formula.Goals as goal

pub push_reserved-requires-in-loop-number : goal.push_reserved-requires-in-loop-number
push_reserved-requires-in-loop-number c = grind (arith, length-range_with_len)

pub push_reserved-requires-in-loop-number-2 : goal.push_reserved-requires-in-loop-number-2
push_reserved-requires-in-loop-number-2 c = grind (arith, length-range_with_len)

pub loop-number-preserved : goal.loop-number-preserved
loop-number-preserved c = grind (arith, range_more)
