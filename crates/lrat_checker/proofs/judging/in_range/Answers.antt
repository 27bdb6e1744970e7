use Rattle.std.proofs.{Common.{◌+◌, ◌++◌, ◌∷◌, [], drop, take, sym, ap, ◌∙◌, arith}, lemmas.List.{Elements.All-push, drop_more, take_more}}
use Rattle.cnf_formula.specs.Formulas.{IsAbout}
use Rattle.lrat_checker.proofs.judging.in_range.Goals as goal

pub loop-lit-preserved : goal.loop-lit-preserved
loop-lit-preserved c =
    let lits = c.args.lits.now in
    let vars = c.args.vars in
    let j = c.loop-lit.lit-index in
    let lit = c.lit-item.result in
    let own : IsAbout vars lit = record { some = c.var.ensures.limits.some; within = omega (arith, c.var.ensures.var, c.if-var-vars.false) } in
    let here = drop_more lits j lit c.loop-lit-test.true ∙ ap (λ l. l ∷ drop (j + 1) lits) (sym c.lit-item.is) in
    let more = take_more lits j lit c.loop-lit-test.true ∙ ap (λ l. take j lits ++ l ∷ []) (sym c.lit-item.is) in
    grind (arith, All-push (IsAbout vars) (take j lits) lit c.loop-lit.invariant.about own)
