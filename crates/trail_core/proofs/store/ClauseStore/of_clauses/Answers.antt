use Rattle.std.proofs.{Common.{◌+◌, ◌<◌, ◌≤◌, [], ◌∷◌, ◌++◌, map, length, get_or, take, ap, ◌∙◌, arith}, lemmas.List.{map_push, Elements.All-push}}
use Rattle.cnf_formula.specs.Literals.{yes}
use Rattle.trail_core.{specs.{inner.{Begun.front_row}}, proofs.{Storing.{joined, joined_at, Lies}, Begun.rows_more, store.ClauseStore.of_clauses.Goals.After-clause-clause}}
use Rattle.trail_core.proofs.store.ClauseStore.of_clauses.Goals as goal

-- the clause lies among the literals
within : (c : After-clause-clause) → c.loop-place.start + length c.clause-clause.result.now ≤ length (joined c.args.clauses.now)
within c =
    let clauses = c.args.clauses.now in
    let w : c.loop-place.place < length clauses = omega (arith, c.loop-place-test.true, c.loop-place.auto.place-end, c.len-place-end.ensures) in
    (joined_at clauses c.loop-place.place c.loop-place.start _ w c.loop-place.invariant.start (omega (arith, ap length c.clause-clause.ensures))).2

pub overflow_cast-end : goal.overflow_cast-end
overflow_cast-end c = omega (arith, within (goal.at.overflow_cast-end c).After-clause-clause, c.requires.few_lits)

pub overflow_add-end : goal.overflow_add-end
overflow_add-end c = omega (arith, within (goal.at.overflow_add-end c).After-clause-clause, c.requires.few_lits)

pub loop-place-preserved : goal.loop-place-preserved
loop-place-preserved c =
    let i = c.loop-place.invariant in
    let clauses = c.args.clauses.now in
    let lits = joined clauses in
    let start = c.loop-place.start in
    let k = c.loop-place.place in
    let clause = get_or clauses k [] in
    let w : k < length clauses = omega (arith, c.loop-place-test.true, c.loop-place.auto.place-end, c.len-place-end.ensures) in
    let long = ap length c.clause-clause.ensures in
    let end = start + length c.clause-clause.result.now in
    let at = joined_at clauses k start end w i.start (omega (arith, long)) in
    let first = c.front_pair-first.ensures.first ∙ ap (λ xs. get_or xs 0 (yes 1)) c.clause-clause.ensures in
    let second = c.front_pair-first.ensures.second ∙ ap (λ xs. get_or xs 1 (yes 1)) c.clause-clause.ensures in
    record {
      capacity = omega (arith, i.capacity, c.push_reserved.ensures.capacity);
      start = at.1;
      rows = rw (c.push_reserved.ensures.items, map_push, i.rows, rows_more clauses k w) (λ i. map front_row (take k clauses) ++ record { lits = at.0 i; first = first i; second = second i } ∷ []);
      lie = rw c.push_reserved.ensures.items (All-push (Lies lits) _ _ i.lie (omega arith, at.2));
    }
