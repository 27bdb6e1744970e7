use Rattle.std.proofs.Common.{sym, subst, ◌∙◌}
use Rattle.cnf_formula.specs.Formulas.{Satisfies}
use Rattle.candidate_order.specs.Frontiers.{QuestionValue, instance_for}
use Rattle.candidate_formula.proofs.BegunFiles.{begun_trans}
use Rattle.candidate_solver.{specs.{Questions.asked, Trying.{BeginsOwn, IsSearch, Says}}, proofs.{Tried.{has_files, outcome_by}, SmallFormulas.formula_small}}
use Rattle.candidate_solver.proofs.trying.try_candidate.Goals as goal

pub returns-in_err-answer-clause-begins : goal.returns-in_err-answer-clause-begins
returns-in_err-answer-clause-begins g c = λ t.
    let F = g.H.Shelf.file in
    subst (λ f. BeginsOwn f c.args.part c.args.candidate (F c.args.store.now) (F c.search.new.store)) (c.formula-formula.ensures ∙ c.in_ok-encoded.ensures.formula c.args.question.now.limits (sym c.pruning-pruning.ensures)) (c.search.ensures.begins t)

pub outcome_of-requires-clause-encoding : goal.outcome_of-requires-clause-encoding
outcome_of-requires-clause-encoding g c =
    let question = c.args.question.now in
    let q : QuestionValue = asked question in
    let x = c.args.candidate in
    record {
      topology = question.topology;
      pre = (instance_for q x).pre;
      post = (instance_for q x).post;
      steps = x.s;
      rounds = x.r;
      encodes = c.in_ok-encoded.ensures.encoding question.limits;
    }

pub outcome_of-requires-clause-model : goal.outcome_of-requires-clause-model
outcome_of-requires-clause-model g c = λ values said.
    c.in_ok-encoded.ensures.models values (subst (Satisfies values) c.formula-formula.ensures (c.in_ok-answer.ensures.search.model values said))

pub returns-in_err-outcome-clause-begins : goal.returns-in_err-outcome-clause-begins
returns-in_err-outcome-clause-begins g c = λ t.
    let F = g.H.Shelf.file in
    subst (λ f. BeginsOwn f c.args.part c.args.candidate (F c.args.store.now) (F c.search.new.store)) (c.formula-formula.ensures ∙ c.in_ok-encoded.ensures.formula c.args.question.now.limits (sym c.pruning-pruning.ensures)) (c.search.ensures.begins t)

pub returns-in_err-tidy-clause-begins : goal.returns-in_err-tidy-clause-begins
returns-in_err-tidy-clause-begins g c = λ t.
    let F = g.H.Shelf.file in
    subst (λ f. BeginsOwn f c.args.part c.args.candidate (F c.args.store.now) (F c.tidy.new.store)) (c.formula-formula.ensures ∙ c.in_ok-encoded.ensures.formula c.args.question.now.limits (sym c.pruning-pruning.ensures))
    (begun_trans (c.search.ensures.begins (c.tidy.ensures.told t)) (c.tidy.ensures.begins t c.formula-formula.result.now))

pub returns-clause-begins : goal.returns-clause-begins
returns-clause-begins g c = λ t.
    let F = g.H.Shelf.file in
    subst (λ f. BeginsOwn f c.args.part c.args.candidate (F c.args.store.now) (F c.tidy.new.store)) (c.formula-formula.ensures ∙ c.in_ok-encoded.ensures.formula c.args.question.now.limits (sym c.pruning-pruning.ensures))
    (begun_trans (c.search.ensures.begins (c.tidy.ensures.told t)) (c.tidy.ensures.begins t c.formula-formula.result.now))

pub returns-clause-files : goal.returns-clause-files
returns-clause-files g c = λ t.
    let F = g.H.Shelf.file in
    let question = c.args.question.now in
    let q : QuestionValue = asked question in
    let x = c.args.candidate in
    let found = c.in_ok-answer.field-0 in
    let searched = c.in_ok-answer.ensures in
    let told = c.tidy.ensures.told t in
    let f = c.formula-formula.result.now in
    let same = c.formula-formula.ensures ∙ c.in_ok-encoded.ensures.formula question.limits (sym c.pruning-pruning.ensures) in
    has_files q c.args.part x f found.lines found.answer (F c.search.new.store) (F c.tidy.new.store)
    (record {
      same = same;
      small = formula_small q x f same question.small c.requires.within;
      limited = question.small.limits.conflicts;
      text = searched.text told;
      kept = c.tidy.ensures.formula t;
      has = searched.lines told;
      implied = searched.implied;
      search = subst (λ n. IsSearch f n found.lines found.answer) c.conflicts-limit.ensures.conflicts searched.search;
    })
    c.in_ok-encoded.encoded.encoding c.in_ok-outcome.outcome (subst (λ n. Says c.in_ok-encoded.encoded.encoding found.answer n c.in_ok-outcome.outcome) c.conflicts-limit.ensures.conflicts c.in_ok-outcome.ensures) (rw (← c.of.ensures) (c.in_ok-tidy.ensures.tidy t))

pub returns-clause-outcome : goal.returns-clause-outcome
returns-clause-outcome g c =
    let question = c.args.question.now in
    let found = c.in_ok-answer.field-0 in
    outcome_by (asked question) c.args.candidate c.in_ok-encoded.encoded.encoding c.formula-formula.result.now found.lines found.answer c.conflicts-limit.result c.in_ok-outcome.outcome question.small
    (c.formula-formula.ensures ∙ c.in_ok-encoded.ensures.formula question.limits (sym c.pruning-pruning.ensures)) c.conflicts-limit.ensures.conflicts (c.in_ok-encoded.ensures.encoding question.limits)
    (λ values holds. c.in_ok-encoded.ensures.suits question.limits (sym c.pruning-pruning.ensures) values (subst (Satisfies values) c.formula-formula.ensures holds)) c.in_ok-answer.ensures.search c.in_ok-outcome.ensures
