use Rattle.std.{proofs.{Common.{sym, ◌∙◌, subst}, lemmas.List.Elements.All-filter}, specs.List.All}
use Rattle.schedule.specs.Links.{IsLink}
use Rattle.topology_families.specs.Family.{is_inside}
use Rattle.topology_families.proofs.grouping.box_groups.Goals as goal

pub own_groups-requires : goal.own_groups-requires
own_groups-requires c = subst (All IsLink) (sym (c.deref.ensures.value ∙ c.in_ok-inside.ensures)) (All-filter is_inside IsLink c.args.links.now c.requires.links)
