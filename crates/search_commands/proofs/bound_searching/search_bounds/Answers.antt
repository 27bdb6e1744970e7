use Rattle.outer_ports.specs.declared.part.Part.TheVariants.{Whole}
use Rattle.report_search.proofs.Beginning.{breaks_off_for}
use Rattle.search_commands.proofs.OnePart.{is_a_part, proved_for}
use Rattle.search_commands.proofs.bound_searching.search_bounds.Goals as goal

pub returns-clause-proves : goal.returns-clause-proves
returns-clause-proves g c = λ told.
    proved_for c.args.words c.args.topology.now c.args.sets _ _ _ c.topology-links.result.now c.in_ok-spec.spec c.limits.result c.topology-links.ensures.topology c.in_ok-spec.ensures c.limits.ensures (c.find_bounds.ensures.shelved told)

pub returns-clause-begun : goal.returns-clause-begun
returns-clause-begun g c = λ told.
    breaks_off_for c.args.words c.args.topology.now Whole c.topology-links.result.now c.in_ok-spec.spec c.limits.result _ _ c.topology-links.ensures.topology c.in_ok-spec.ensures c.limits.ensures (is_a_part c.args.words c.args.topology.now c.args.sets c.requires.single) (c.find_bounds.ensures.begun told)
