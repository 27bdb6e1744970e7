use Rattle.std.{proofs.{Common.{arith, ◌∙◌, ap, refl, length}, lemmas.Option.{slice_get_past, slice_get_read}}, specs.Option.option_map}
use Rattle.outer_ports.specs.declared.part.Part.TheVariants.{Joined}
use Rattle.report_form.proofs.PointNumbers.{joined_points, number_first, number_in, number_behind, number_joined}
use Rattle.report_form.proofs.numbered.point_at.Goals as goal

pub loop-part-init : goal.loop-part-init
loop-part-init c = number_first c.args.report.now c.frontiers-part-items.result.now c.args.number c.frontiers-part-items.ensures.frontiers c.if-number-eq0.false

pub returns-then-left-points-clause-some : goal.returns-then-left-points-clause-some
returns-then-left-points-clause-some c = grind (arith, number_in, joined_points)

pub loop-part-preserved : goal.loop-part-preserved
loop-part-preserved c = grind (arith, number_behind, joined_points)

pub returns-then-left-joined-clause-some : goal.returns-then-left-joined-clause-some
returns-then-left-joined-clause-some c =
    number_joined c.frontiers-part-items.result.now c.loop-part.part-index c.loop-part.left c.args.report.now.joined c.joined-joined.result.now _ c.loop-part-test.false c.joined-joined.ensures.joined c.loop-part.invariant
    ∙ ap (option_map (λ p. (Joined, p))) (slice_get_read c.joined-joined.result.now (length c.joined-joined.result.now) c.loop-part.left c.index-joined-left.result refl c.if-left-joined.true c.index-joined-left.is)

pub returns-clause-none : goal.returns-clause-none
returns-clause-none c =
    number_joined c.frontiers-part-items.result.now c.loop-part.part-index c.loop-part.left c.args.report.now.joined c.joined-joined.result.now _ c.loop-part-test.false c.joined-joined.ensures.joined c.loop-part.invariant
    ∙ ap (option_map (λ p. (Joined, p))) (slice_get_past c.joined-joined.result.now c.loop-part.left c.if-left-joined.false)
