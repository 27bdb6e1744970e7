use Rattle.std.proofs.Common.{◌≡◌, ℕ, List, None, sym, ap, ◌∙◌, subst}
use Rattle.schedule.specs.Links.{GroupValue, TopologyValue, IsTopology}
use Rattle.topology_text.specs.Value.{IsNamed}
use Rattle.topology_families.{specs.Family.family_groups, proofs.FamilyLaws.{family_topology, family_named}}
use Rattle.topology_families.proofs.families.family.Goals as goal

pub new-requires : goal.new-requires
new-requires c = subst (λ (groups : List GroupValue). IsTopology (record { nodes = c.args.size; groups = groups })) (sym c.in_ok-groups.ensures) (family_topology c.args.kind c.args.size c.requires)

pub new-requires-2 : goal.new-requires-2
new-requires-2 c =
    let kind = c.args.kind in
    let size = c.args.size in
    let made : c.new.result ≡ record { nodes = size; groups = family_groups kind size } = c.new.ensures ∙ ap (λ groups. record { nodes = size; groups = groups }) c.in_ok-groups.ensures in
    subst (λ (t : TopologyValue). IsNamed (record { names = c.in_ok-names.names.items; topology = t; custom = None })) (sym made)
    (subst (λ (names : List (List ℕ)). IsNamed (record { names = names; topology = record { nodes = size; groups = family_groups kind size }; custom = None })) (sym c.in_ok-names.ensures) (family_named kind size c.requires))
