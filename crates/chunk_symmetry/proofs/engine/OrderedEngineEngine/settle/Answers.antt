use Rattle.std.proofs.Common.{◌≡◌, sym, ap, subst}
use Rattle.candidate_order.specs.declared.outcome.Outcome.TheVariants as outcome
use Rattle.candidate_order.specs.Frontiers.{QuestionValue}
use Rattle.candidate_formula.{specs.Formulas.{ordered_formula_for, OrderedFor}, proofs.Exact.ordered_exact}
use Rattle.candidate_solver.{specs.Questions.asked, proofs.Noting.{proved_by, not_solvable}}
use Rattle.chunk_symmetry.proofs.engine.OrderedEngineEngine.settle.Goals as goal

pub note-requires-clause-proved : goal.note-requires-clause-proved
note-requires-clause-proved g c =
    let attempt = c.in-Ok.field-0 in
    let q : QuestionValue = asked c.args.self.now.question in
    proved_by q c.args.candidate (ordered_formula_for q c.args.candidate) attempt.lines attempt.outcome c.of.result c.of.ensures c.in-Ok.ensures.proves

pub returns-in-Ok-clause-solved : goal.returns-in-Ok-clause-solved
returns-in-Ok-clause-solved g c = λ schedule e.
    let q : QuestionValue = asked c.args.self.now.question in
    let same : c.in-Ok.field-0.outcome ≡ outcome.Solved schedule = cc in
    let said = c.in-Ok.ensures in
    (said.proves.solved schedule same, subst (λ p. OrderedFor (asked p) c.args.candidate schedule) (sym c.note.ensures.question) (said.ordered schedule same))

pub returns-in-Ok-clause-refuted : goal.returns-in-Ok-clause-refuted
returns-in-Ok-clause-refuted g c = λ e.
    let engine = c.args.self.now in
    let attempt = c.in-Ok.field-0 in
    let same : attempt.outcome ≡ outcome.Refuted = cc in
    let q : QuestionValue = asked engine.question in
    not_solvable q c.args.candidate (ordered_formula_for q c.args.candidate) attempt.lines (ordered_exact q c.args.candidate engine.question.small c.requires.within).1 (c.in-Ok.ensures.proves.refuted same)

pub returns-in-Ok-clause-unknown : goal.returns-in-Ok-clause-unknown
returns-in-Ok-clause-unknown g c = λ n e.
    let same : c.in-Ok.field-0.outcome ≡ outcome.Unknown n = cc in
    rw c.note.ensures.log (c.in-Ok.ensures.proves.unknown n same)

pub returns-in-Ok-clause-same : goal.returns-in-Ok-clause-same
returns-in-Ok-clause-same g c = record {
  question = ap asked c.note.ensures.question;
  formula = λ x. ap (λ p. ordered_formula_for (asked p) x) c.note.ensures.question;
  suits = λ x schedule. rw c.note.ensures.question (λ h. h, λ h. h);
}

-- making room leaves the record as it was
pub invariant_of-self : goal.invariant_of-self
invariant_of-self g c =
    let e = c.args.self.now in
    rw c.prepare.ensures.entries (record { right = e.right; exhausted = e.exhausted; proved = e.proved })

pub invariant_of-self-in-Ok-1 : goal.invariant_of-self-in-Ok-1
invariant_of-self-in-Ok-1 g c =
    let e = c.args.self.now in
    rw c.prepare.ensures.entries (record { right = e.right; exhausted = e.exhausted; proved = e.proved })

pub invariant_of-self-in-Err : goal.invariant_of-self-in-Err
invariant_of-self-in-Err g c =
    let e = c.args.self.now in
    rw (c.stop.ensures.entries, c.prepare.ensures.entries) (record { right = e.right; exhausted = e.exhausted; proved = e.proved })
