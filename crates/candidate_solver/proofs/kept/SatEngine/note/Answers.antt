use Rattle.candidate_order.specs.{declared.candidate.Candidate.Candidate, Frontiers.QuestionValue}
use Rattle.cnf_formula.specs.Formulas.{FormulaValue}
use Rattle.candidate_formula.{specs.Formulas.formula_for, proofs.Exact.formula_exact}
use Rattle.candidate_solver.{specs.Questions.asked, proofs.Noting.{right_more, exhausted_more, proved_last}}
use Rattle.candidate_solver.proofs.kept.SatEngine.note.Goals as goal

pub invariant_of-self : goal.invariant_of-self
invariant_of-self c =
    let e = c.args.self.now in
    let q : QuestionValue = asked e.question in
    let entries = e.tried.entries in
    let now = c.note.new.self.entries in
    let x = c.args.candidate in
    let kind = c.args.kind in
    let lines = c.args.lines in
    let added = c.note.ensures.entries in
    let limit = e.question.limits.conflicts in
    let formula : Candidate → FormulaValue = formula_for q in
    let proved = c.requires.proved in
    record {
      named = e.named;
      right = right_more formula entries now x kind lines limit added proved q (formula_exact q x e.question.small c.requires.within).1 e.right;
      exhausted = exhausted_more formula entries now x kind lines limit added proved e.exhausted;
      proved = proved_last formula entries now x kind lines limit added proved;
    }
