use Rattle.std.proofs.Common.{sym, ap, ◌∙◌}
use Rattle.frontier_audit.{specs.{Candidates.candidates_within, inner.Steps.unrefuted_among}, proofs.Answering.{missing_decides, marks_decide}}
use Rattle.frontier_audit.proofs.parts.answers_denied.Goals as goal

pub returns-in-Some : goal.returns-in-Some
returns-in-Some c =
    let left = c.in_ok-left.ensures ∙ ap (λ r. unrefuted_among r (candidates_within c.args.asked.now)) c.refuted.ensures in
    missing_decides c.args.asked.now c.args.frontier.now c.deref.result.now (c.deref.ensures.value ∙ left) c.in-Some.denial (sym c.in-Some.is ∙ c.passed_over.ensures)

pub returns : goal.returns
returns c =
    let left = c.in_ok-left.ensures ∙ ap (λ r. unrefuted_among r (candidates_within c.args.asked.now)) c.refuted.ensures in
    rw (c.marks_denied.ensures, c.deref-2.ensures.value, c.points.ensures)
    (marks_decide c.args.asked.now c.args.frontier.now c.in_ok-left.left.items left (rw c.deref.ensures.value at (sym c.in_default.is ∙ c.passed_over.ensures)))
