use Rattle.std.proofs.{Common.{◌≡◌, ◌≤◌, List, length, map, take, sym, subst, ap, ◌∙◌, rules}, lemmas.List.take_all}
use Rattle.schedule.{specs.Links.{GroupValue, TopologyValue, IsTopology, reversed_group}, proofs.Turned.turned_topology}
use Rattle.schedule.proofs.topology.Topology.reversed.Goals as goal

pub invariant_of-result : goal.invariant_of-result
invariant_of-result c =
    let t : TopologyValue = record { nodes = c.self.inside.nodes; groups = c.self.inside.groups.items } in
    let few : length t.groups ≤ c.loop-group.group-index = search rules in
    let all : map reversed_group (take c.loop-group.group-index t.groups) ≡ map reversed_group t.groups = ap (map reversed_group) (take_all c.loop-group.group-index t.groups few) in
    let first : c.loop-group.groups.items ≡ map reversed_group (take c.loop-group.group-index t.groups) = search rules in
    let make : List GroupValue → TopologyValue = λ groups. record { nodes = t.nodes; groups = groups } in
    subst IsTopology (sym (ap make (first ∙ all))) (turned_topology t c.self.invariant)
