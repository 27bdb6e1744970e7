use Rattle.std.proofs.Common.{arith, ◌≡◌, true, sym, subst, rules, Some, Contains}
use Rattle.cnf_formula.specs.Literals.{LitValue}
use Rattle.trail_core.specs.{Assigned.IsValue, Meaning.trues}
use Rattle.sat_core.proofs.{Once.consistent_by, Spent.{true_rests, open_rests}}
use Rattle.sat_core.proofs.waking.rests.Goals as goal

pub returns-in-Some-true : goal.returns-in-Some-true
returns-in-Some-true c = λ _.
    let low = trues c.args.core.now in
    let x : LitValue = c.lit-item.result in
    let stands : Contains c.args.lits.now x = (c.loop-lit.lit-index, c.loop-lit-test.true, sym c.lit-item.is) in
    let e : c.value.result ≡ Some true = search rules in
    true_rests low c.args.lits.now x (consistent_by low c.trail-known.ensures.formed.apart) stands (subst (IsValue low x) e c.value.ensures)

pub returns-then-ne : goal.returns-then-ne
returns-then-ne c = grind (arith, open_rests)
