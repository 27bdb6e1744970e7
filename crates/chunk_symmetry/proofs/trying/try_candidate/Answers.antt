use Rattle.std.proofs.Common.{refl, subst, ◌∙◌}
use Rattle.cnf_formula.specs.Formulas.{Satisfies}
use Rattle.candidate_order.specs.Frontiers.{QuestionValue, instance_for}
use Rattle.candidate_solver.specs.Questions.{asked}
use Rattle.chunk_symmetry.proofs.Engines.{ordered_by, ordered_limits}
use Rattle.chunk_symmetry.proofs.trying.try_candidate.Goals as goal

pub outcome_of-requires-clause-encoding : goal.outcome_of-requires-clause-encoding
outcome_of-requires-clause-encoding c =
    let question = c.args.question.now in
    let q : QuestionValue = asked question in
    let x = c.args.candidate in
    record {
      topology = question.topology;
      pre = (instance_for q x).pre;
      post = (instance_for q x).post;
      steps = x.s;
      rounds = x.r;
      encodes = c.in_ok-encoded.ensures.encoding question.limits;
    }

pub outcome_of-requires-clause-model : goal.outcome_of-requires-clause-model
outcome_of-requires-clause-model c = λ values said.
    c.in_ok-encoded.ensures.models values (subst (Satisfies values) c.formula-formula.ensures (c.in_ok-answer.ensures.model values said))

pub returns : goal.returns
returns c =
    let question = c.args.question.now in
    let q : QuestionValue = asked question in
    let found = c.in_ok-answer.field-0 in
    ordered_by q c.args.candidate c.in_ok-encoded.encoded.encoding c.formula-formula.result.now found.lines found.answer c.conflicts-limit.result c.in_ok-outcome.outcome question.small
    (c.formula-formula.ensures ∙ c.in_ok-encoded.ensures.formula (ordered_limits question.limits) refl) c.conflicts-limit.ensures.conflicts (c.in_ok-encoded.ensures.encoding question.limits)
    (λ values holds. c.in_ok-encoded.ensures.suits (ordered_limits question.limits) refl values (subst (Satisfies values) c.formula-formula.ensures holds) refl) c.in_ok-answer.ensures c.in_ok-outcome.ensures
