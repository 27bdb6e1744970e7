use Rattle.std.proofs.{lemmas.{List.{length-map, length-take-le}}, Common.{count_by, sym, subst, arith, All}}
use Rattle.cnf_formula.specs.Formulas.{IsAbout}
use Rattle.trail_core.proofs.{Storing.all_joined, Begun.{few_front, rows_more}}
use Rattle.trail_core.proofs.loading.watching.Goals as goal

pub counts_of-requires-clause-about : goal.counts_of-requires-clause-about
counts_of-requires-clause-about c = subst (All (IsAbout c.args.vars)) (sym c.lits.ensures) (all_joined (IsAbout c.args.vars) c.args.clauses.now c.requires.within)

pub put-requires-clause-room : goal.put-requires-clause-room
put-requires-clause-room c = grind (arith, count_by, few_front)

pub loop-place-preserved : goal.loop-place-preserved
loop-place-preserved c =
    record { len = omega arith; rooms = cc; uses = cc; begun = rw (rows_more c.args.clauses.now c.loop-place.place (omega arith), ← c.clause.ensures) (c.in_ok-put.ensures.begun _ (grind (arith, length-map, length-take-le)) c.loop-place.invariant.begun) }
