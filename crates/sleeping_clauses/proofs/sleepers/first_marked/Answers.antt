use Rattle.std.proofs.{Common.{◌≡◌, ◌<◌, [], length, map, subst, sym, ap, ◌∙◌, arith, Contains}, lemmas.List.{take_all, Elements.All-contains}}
use Rattle.list_laws.proofs.Fronts.{at_map}
use Rattle.cnf_formula.specs.Literals.{LitValue, code_of}
use Rattle.sleeping_clauses.{specs.{declared.sleepers.Led.Led, Sleeping.{IsCover, list_at}}, proofs.Found.none_more}
use Rattle.sleeping_clauses.proofs.sleepers.first_marked.Goals as goal

pub loop-lit-preserved : goal.loop-lit-preserved
loop-lit-preserved c = λ o led h g cover.
    let lits = c.args.lits.now in
    let k = c.loop-lit.lit-index in
    let x : LitValue = c.lit-item.result in
    let leads = c.args.leads.now in
    let ls = map (λ v. v.items) leads in
    let about : code_of x < length leads = All-contains (λ l. code_of l < length leads) lits x c.requires.about (k, c.loop-lit-test.true, sym c.lit-item.is) in
    let at = c.code.ensures.code in
    let list : list_at ls (code_of x) ≡ c.deref.result.now = ap (list_at ls) (sym at) ∙ at_map (λ v. v.items) leads c.code.result c.index-leads-code.result [] (omega (arith, about, at)) c.index-leads-code.is ∙ sym c.deref.ensures.value in
    let none : (e : Led) → Contains (list_at ls (code_of x)) e → IsCover c.args.clauses.now c.args.asleep.now c.args.marks.now c.args.stamp e → ⊥ = λ e m. c.in_default.ensures e (subst (λ es. Contains es e) list m) in
    none_more (λ y. (e : Led) × Contains (list_at ls (code_of y)) e × IsCover c.args.clauses.now c.args.asleep.now c.args.marks.now c.args.stamp e) lits k x c.loop-lit-test.true c.lit-item.is
    (λ y m p. c.loop-lit.invariant y p.0 m p.1 p.2) (λ p. none p.0 p.1 p.2) o h (led, g, cover)

pub returns : goal.returns
returns c = grind (arith, take_all)
