use Rattle.std.proofs.Common.{◌∙◌, ap, subst}
use Rattle.candidate_order.specs.Frontiers.{QuestionValue}
use Rattle.candidate_formula.specs.Formulas.{OrderedFor, ordered_formula_for}
use Rattle.engine_search.proofs.{Searched.made_for, Found.found_with}
use Rattle.search_commands.proofs.ordered_searching.find_ordered.Goals as goal

pub returns-in-Ok : goal.returns-in-Ok
returns-in-Ok c =
    let q : QuestionValue = record { topology = c.args.topology.now; spec = c.args.spec.now; limits = c.args.limits } in
    let made = made_for q _ _ c.in_ok-engine.ensures.question c.deref.ensures c.in_ok-links.ensures.links in
    found_with _ _ _ _ (λ x. c.frontier_by.ensures.same.formula x ∙ c.in_ok-engine.ensures.formula x ∙ ap (λ p. ordered_formula_for p x) made) (λ x s suited. subst (λ p. OrderedFor p x s) (c.frontier_by.ensures.same.question ∙ made) suited) c.in-Ok.ensures.found
