use Rattle.std.proofs.Common.{sym, ◌∙◌}
use Rattle.candidate_order.specs.Frontiers.{QuestionValue}
use Rattle.candidate_formula.specs.Formulas.{formula_for}
use Rattle.candidate_solver.specs.Questions.{asked}
use Rattle.kept_proofs.proofs.Standing.{asked_alike, stands_new}
use Rattle.kept_proofs.proofs.engine.KeptEngine.new.Goals as goal

pub invariant_of-result : goal.invariant_of-result
invariant_of-result c =
    let inner = c.in_ok-inner.inner in
    let told = c.in_ok-inner.ensures in
    let question = c.in_ok-question.ensures in
    let tried = c.new-tried.result in
    let q : QuestionValue = asked inner.question in
    let s = stands_new {kept = c.args.kept} q (formula_for q) tried.stopped told.entries told.stopped c.new-tried.ensures.entries in
    record {
      same_part = told.part;
      same_question = told.question ∙ sym (asked_alike _ _ _ _ _ _ question.topology question.spec question.limits);
      among = s.among;
      stops = s.stops;
      right = s.right;
      exhausted = s.exhausted;
      searches = s.searches;
    }
