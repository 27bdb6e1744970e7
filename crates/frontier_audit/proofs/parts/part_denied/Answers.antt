use Rattle.std.proofs.Common.{arith, sym, subst, ap, ◌∙◌, AllPairs}
use Rattle.candidate_order.specs.{Costs.Before, Frontiers.UnknownValue}
use Rattle.frontier_audit.{specs.{Denials.each, inner.Steps.point_checked, Beside.denial_of}, proofs.Parting.{answers_decide, points_decide, refuted_decide, unknown_decide, unnamed_pairs}}
use Rattle.frontier_audit.proofs.parts.part_denied.Goals as goal

pub unknown_denied-requires-clause-ascending : goal.unknown_denied-requires-clause-ascending
unknown_denied-requires-clause-ascending g c =
    subst (AllPairs (λ u v. Before u.candidate v.candidate)) (sym c.unknown.ensures) (unnamed_pairs Before (λ (u : UnknownValue). u.candidate) c.args.frontier.now.unknown c.requires.unknown_ascend)

pub returns-in-Some-clause-beside : goal.returns-in-Some-clause-beside
returns-in-Some-clause-beside g c =
    points_decide c.args.part c.args.asked.now c.args.frontier.now c.in-Some.denial (sym c.in-Some.is ∙ (c.in_ok-denial.ensures ∙ ap (λ ps. denial_of (each (point_checked c.args.asked.now) ps)) c.points.ensures))

pub returns-in-Some-2-clause-beside : goal.returns-in-Some-2-clause-beside
returns-in-Some-2-clause-beside g c = grind (arith, refuted_decide)

pub returns-in-Some-3-clause-beside : goal.returns-in-Some-3-clause-beside
returns-in-Some-3-clause-beside g c =
    let points = c.in_ok-denial.ensures ∙ ap (λ ps. denial_of (each (point_checked c.args.asked.now) ps)) c.points.ensures in
    let first = c.in_ok-denial-2.ensures in
    unknown_decide c.args.part c.args.asked.now c.args.frontier.now (sym c.in_default.is ∙ points) (rw (c.refuted.ensures, c.in_default-2.is) at first.beside) c.in_ok-denial-3.ensures.told (λ t. first.stay (c.in_ok-denial-3.ensures.told t))
    c.in-Some-3.denial (rw (c.unknown.ensures, c.in-Some-3.is) at c.in_ok-denial-3.ensures.beside)

pub returns-clause-beside : goal.returns-clause-beside
returns-clause-beside g c =
    let points = c.in_ok-denial.ensures ∙ ap (λ ps. denial_of (each (point_checked c.args.asked.now) ps)) c.points.ensures in
    let first = c.in_ok-denial-2.ensures in
    answers_decide c.args.part c.args.asked.now c.args.frontier.now (sym c.in_default.is ∙ points) (rw (c.refuted.ensures, c.in_default-2.is) at first.beside) c.in_ok-denial-3.ensures.told (λ t. first.stay (c.in_ok-denial-3.ensures.told t))
    c.in_ok-answers_denied.field-0 (rw (c.unknown.ensures, c.in_default-3.is) at c.in_ok-denial-3.ensures.beside) c.in_ok-answers_denied.ensures
