use Rattle.std.proofs.Common.{arith, ap, subst, sym, length, ◌≤◌}
use Rattle.report_form.specs.Reports.{IsFrontier}
use Rattle.frontier_audit.proofs.{Merging.{walk_ends, walk_on, walk_starts, walk_stops}, Parting.{at_part, in_report, named_in, separate_parts}}
use Rattle.frontier_audit.proofs.parts.parts_denied.Goals as goal

pub loop-part-init : goal.loop-part-init
loop-part-init g c = walk_starts _ _ _ _ _

pub of-requires-clause-part : goal.of-requires-clause-part
of-requires-clause-part g c = grind (arith, at_part)

pub part_denied-requires : goal.part_denied-requires
part_denied-requires g c =
    let x = c.loop-part-item.result in
    let at = at_part c.args.report.now c.frontiers-part-items.ensures.limits c.frontiers-part-items.result.now c.loop-part.part-index x c.frontiers-part-items.ensures.frontiers c.loop-part-test.true c.loop-part-item.is in
    subst (λ q. IsFrontier q x.1) (sym c.in_ok-asked.ensures) at.frontier

pub returns-in-Some-clause-beside : goal.returns-in-Some-clause-beside
returns-in-Some-clause-beside g c =
    let x = c.loop-part-item.result in
    let at = at_part c.args.report.now c.frontiers-part-items.ensures.limits c.frontiers-part-items.result.now c.loop-part.part-index x c.frontiers-part-items.ensures.frontiers c.loop-part-test.true c.loop-part-item.is in
    walk_stops c.loop-part.invariant x at.low at.is c.in_ok-denial.ensures.told (in_report c.args.report.now x c.in_ok-asked.ensures c.in_ok-denial.ensures.beside) (x.0, c.in-Some.denial) (ap (named_in x.0) c.in-Some.is)

pub loop-part-preserved : goal.loop-part-preserved
loop-part-preserved g c =
    let x = c.loop-part-item.result in
    let at = at_part c.args.report.now c.frontiers-part-items.ensures.limits c.frontiers-part-items.result.now c.loop-part.part-index x c.frontiers-part-items.ensures.frontiers c.loop-part-test.true c.loop-part-item.is in
    walk_on c.loop-part.invariant x at.low at.is c.in_ok-denial.ensures.told (in_report c.args.report.now x c.in_ok-asked.ensures c.in_ok-denial.ensures.beside)
    (separate_parts c.args.report.now c.frontiers-part-items.ensures.limits) c.in_ok-denial.ensures.stay (c.in_ok-denial.ensures.cause.stays (λ failed. absurd cc)) (ap (named_in x.0) c.in_default.is)

pub returns-clause-beside : goal.returns-clause-beside
returns-clause-beside g c = walk_ends c.loop-part.invariant (subst (λ xs. length xs ≤ c.loop-part.part-index) c.frontiers-part-items.ensures.frontiers c.loop-part-test.false)
