use Rattle.std.proofs.{Common.{ap, ◌∙◌, subst, List, ◌↔◌, IsTrue, Any}, lemmas.Bool.iff_false}
use Rattle.candidate_order.specs.{Costs.Better, Frontiers.UnknownValue}
use Rattle.pareto_search.proofs.Costs.{marked_optimal, marked_open}
use Rattle.pareto_search.proofs.findings.Findings.mark_of.Goals as goal

pub returns-then-some_better : goal.returns-then-some_better
returns-then-some_better c =
    let same = c.deref.ensures.value ∙ ap (λ f. f.unknown) c.self.view_is in
    let tells = subst (λ (us : List UnknownValue). IsTrue c.some_better.result ↔ Any (λ u. Better u.candidate c.args.candidate) us) same c.some_better.ensures in
    marked_open c.args.self.now.unknown c.args.candidate (tells.0 c.if-some_better.true)

pub returns-else-some_better : goal.returns-else-some_better
returns-else-some_better c =
    let same = c.deref.ensures.value ∙ ap (λ f. f.unknown) c.self.view_is in
    let tells = subst (λ (us : List UnknownValue). IsTrue c.some_better.result ↔ Any (λ u. Better u.candidate c.args.candidate) us) same c.some_better.ensures in
    marked_optimal c.args.self.now.unknown c.args.candidate (iff_false tells c.if-some_better.false)
