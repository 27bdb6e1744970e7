use Rattle.std.proofs.Common.{◌∙◌}
use Rattle.topology_families.proofs.FamilyGroups.{each_made, shared_made, ports_made, cables_made}
use Rattle.topology_families.proofs.families.family_groups.Goals as goal

pub new-requires : goal.new-requires
new-requires c = shared_made c.args.kind c.args.size _ c.in_ok-links.ensures c.requires c.in-Shared.is

pub port_groups-requires : goal.port_groups-requires
port_groups-requires c = ports_made c.args.kind c.args.size _ (c.deref.ensures.value ∙ c.in_ok-links.ensures) c.requires c.in-Switch.is

pub box_groups-requires-clause-links : goal.box_groups-requires-clause-links
box_groups-requires-clause-links c = each_made c.args.kind c.args.size _ (c.deref-in-Boxes.ensures.value ∙ c.in_ok-links.ensures) c.requires

pub box_groups-requires-clause-cables : goal.box_groups-requires-clause-cables
box_groups-requires-clause-cables c = cables_made c.args.kind c.args.size _ (c.deref-in-Boxes.ensures.value ∙ c.in_ok-links.ensures) c.requires c.in-Boxes.is _ (c.deref-in-Boxes-2.ensures.value ∙ c.in_ok-cables-in-Boxes.ensures)

pub own_groups-requires : goal.own_groups-requires
own_groups-requires c = each_made c.args.kind c.args.size _ (c.deref-in-Mesh.ensures.value ∙ c.in_ok-links.ensures) c.requires

pub own_groups-requires-in-Line : goal.own_groups-requires-in-Line
own_groups-requires-in-Line c = each_made c.args.kind c.args.size _ (c.deref-in-Line.ensures.value ∙ c.in_ok-links.ensures) c.requires
