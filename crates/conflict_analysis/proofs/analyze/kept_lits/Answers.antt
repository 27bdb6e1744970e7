use Rattle.std.proofs.{lemmas.{Grind.common_steps, List.get_or_default}, Common.{◌≡◌, ◌<◌, length, get_or, sym, ap, ◌∙◌, arith}}
use Rattle.cnf_formula.specs.Literals.{LitValue}
use Rattle.conflict_analysis.proofs.{Left.left_more, Marked.read_stands}
use Rattle.conflict_analysis.proofs.analyze.kept_lits.Goals as goal

pub index-requires : goal.index-requires
index-requires c =
    let x : LitValue = c.lit-item.result in
    let room = c.requires.room x (read_stands c.args.walk.now.lits.items c.deref-lit-items.result.now c.loop-lit.lit-index x c.deref-lit-items.ensures.value c.loop-lit-test.true c.lit-item.is) in
    omega (arith, room, c.var.ensures.var)

pub loop-lit-preserved : goal.loop-lit-preserved
loop-lit-preserved c =
    let lits = c.args.walk.now.lits.items in
    let k = c.loop-lit.lit-index in
    let x : LitValue = c.lit-item.result in
    let within : k < length lits = omega (arith, c.loop-lit-test.true, ap length c.deref-lit-items.ensures.value) in
    let is : x ≡ get_or lits k x = c.lit-item.is ∙ ap (λ xs. get_or xs k x) c.deref-lit-items.ensures.value in
    let room = c.requires.room x (k, within, sym is) in
    grind (arith, common_steps, get_or_default c.args.walk.now.marks.items x.var c.index.result.now 0 room, left_more c.args.walk.now.stamp c.args.walk.now.marks.items lits c.loop-lit.left.items k x within is c.loop-lit.invariant)
