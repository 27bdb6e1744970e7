use Rattle.report_search.proofs.{Beginning.{breaks_off_for, keeps_parts_for, takes_for}, PartQuestions.asked_for}
use Rattle.report_search.proofs.part.part_frontier.Goals as goal

pub single_frontier-requires : goal.single_frontier-requires
single_frontier-requires g c =
    let can = asked_for c.args.words c.args.topology.now c.requires.asked c.args.part c.topology-links.result.now c.in_ok-spec.spec c.limits.result c.topology-links.ensures.topology c.in_ok-spec.ensures c.limits.ensures c.requires.part in
    record { spec = can.spec; single = can.single; part = can.named; small = can.small }

pub returns-clause-begun : goal.returns-clause-begun
returns-clause-begun g c = λ told.
    breaks_off_for c.args.words c.args.topology.now c.args.part c.topology-links.result.now c.in_ok-spec.spec c.limits.result _ _ c.topology-links.ensures.topology c.in_ok-spec.ensures c.limits.ensures c.requires.part (c.single_frontier.ensures.begun told)

pub returns-clause-takes : goal.returns-clause-takes
returns-clause-takes g c = λ kept told.
    takes_for c.args.words c.args.topology.now c.args.part c.topology-links.result.now c.in_ok-spec.spec c.limits.result _ c.single_frontier.result c.topology-links.ensures.topology c.in_ok-spec.ensures c.limits.ensures (c.single_frontier.ensures.takes kept told)

pub returns-clause-keeps : goal.returns-clause-keeps
returns-clause-keeps g c = λ kept told.
    keeps_parts_for c.args.words c.args.topology.now c.args.part c.topology-links.result.now c.in_ok-spec.spec c.limits.result _ _ c.topology-links.ensures.topology c.in_ok-spec.ensures c.limits.ensures (c.single_frontier.ensures.begun told) (c.single_frontier.ensures.keeps kept told)
