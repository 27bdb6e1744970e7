use Rattle.std.proofs.{Common.{◌≡◌, ◌<◌, ◌+◌, [], ◌∷◌, ◌++◌, length, take, sym, ap, ◌∙◌, subst, arith}, lemmas.List.{take_more, take_all}}
use Rattle.sat_core.{specs.inner.Stating.AreStated, proofs.{Listed.{clause_is}, Stated.{stated_more}}}
use Rattle.sat_core.proofs.stating.stated_by.Goals as goal

pub loop-place-preserved : goal.loop-place-preserved
loop-place-preserved c =
    let clauses = c.args.core.now.clauses in
    let k = c.loop-place.place in
    let w : k < length clauses = omega (arith, c.loop-place-test.true, c.loop-place.auto.place-end, c.len-place-end.ensures, c.requires.ids_len) in
    let is = clause_is clauses c.args.awake.now k c.index.result.now c.clause.result.now c.requires w c.index.ensures (c.clause.ensures []) in
    let e : take k clauses ++ c.clause.result.now ∷ [] ≡ take (k + 1) clauses = ap (λ xs. take k clauses ++ xs ∷ []) is ∙ sym (take_more clauses k [] w) in
    subst (λ cs. AreStated cs c.mark.new.stated.items) e (stated_more (take k clauses) c.clause.result.now c.loop-place.stated.items c.mark.new.stated.items c.loop-place.invariant c.mark.ensures.on c.mark.ensures.this)

pub returns : goal.returns
returns c = subst (λ cs. AreStated cs c.loop-place.stated.items) (take_all c.loop-place.place c.args.core.now.clauses (omega (arith, c.loop-place-test.false, c.loop-place.auto.place-end, c.len-place-end.ensures, c.requires.ids_len))) c.loop-place.invariant
