use Rattle.std.proofs.Common.{sym, subst, ap, ◌∙◌, arith, All}
use Rattle.outer_ports.specs.declared.part.Part.{Part}
use Rattle.candidate_order.specs.Frontiers.{FrontierValue}
use Rattle.allreduce_join.specs.Joins.{IsJoinable}
use Rattle.frontier_audit.proofs.{Jointly.part_joinable, Right.joinable}
use Rattle.frontier_audit.proofs.joins.parts_joined.Goals as goal

pub pairs_denied-requires-clause-reduce : goal.pairs_denied-requires-clause-reduce
pairs_denied-requires-clause-reduce c =
    subst (All IsJoinable) (sym (c.points.ensures ∙ ap (λ (z : Part × FrontierValue). z.1.points) (sym c.index-reduce-0.is)))
    (part_joinable c.args.report.now c.frontiers.ensures.limits c.frontiers.result.now 0 c.index-reduce-0.result c.frontiers.ensures.frontiers (omega (arith, c.in-len2.len_at_least)) c.index-reduce-0.is)

pub pairs_denied-requires-clause-gather : goal.pairs_denied-requires-clause-gather
pairs_denied-requires-clause-gather c =
    subst (All IsJoinable) (sym (c.points-in-len2.ensures ∙ ap (λ (z : Part × FrontierValue). z.1.points) (sym c.index-gather-1.is)))
    (part_joinable c.args.report.now c.frontiers.ensures.limits c.frontiers.result.now 1 c.index-gather-1.result c.frontiers.ensures.frontiers (omega (arith, c.in-len2.len_at_least)) c.index-gather-1.is)

pub pairs_denied-requires-clause-joined : goal.pairs_denied-requires-clause-joined
pairs_denied-requires-clause-joined c = grind (arith, joinable)
