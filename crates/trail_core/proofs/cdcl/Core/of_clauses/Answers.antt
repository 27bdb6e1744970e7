use Rattle.std.proofs.Common.{map, arith}
use Rattle.trail_core.{specs.{inner.Begun.front_row}, proofs.{Storing.occurrences_joined, Begun.{kept_begun, rows_front, lits_front}}}
use Rattle.trail_core.proofs.cdcl.Core.of_clauses.Goals as goal

pub invariant_of-result-2 : goal.invariant_of-result-2
invariant_of-result-2 c =
    let clauses = c.args.clauses.now in
    let vars = c.args.vars in
    let w = c.in_ok-lists.lists in
    let short = c.in_ok-lists.short.items in
    let e = c.in_ok-lists.ensures in
    rw (c.lists.view_is, c.in_ok-of_clauses.ensures, c.in_ok-new.ensures) (kept_begun vars (map front_row clauses) w short e.lists (rows_front vars clauses c.requires.within c.requires.once) e.begun (λ code. let n = e.room code in omega (arith, n, occurrences_joined clauses code)) e.fits)

pub returns : goal.returns
returns c = grind (arith, lits_front)
