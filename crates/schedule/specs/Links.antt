-- Topologies: nodes, and groups of directed links that share a width (Cai et al., PPoPP 2021, section on topologies).
use Rattle.std.specs.{Prelude.{◌≢◌, ℕ, ◌<◌, ◌≤◌, Bool, List, length, map, filter, All, AllPairs}, List.list_any}
use Rattle.schedule.specs.Placed.{all_pairs, same_pair}

-- links that share a width: at most so many chunks cross them together in one round
pub record GroupValue : Type 0 where
  pub links : List (ℕ × ℕ)
  pub width : ℕ

-- a number of nodes, numbered from 0, and groups; a link may stand in several groups
pub record TopologyValue : Type 0 where
  pub nodes : ℕ
  pub groups : List GroupValue

abbrev pub has_link : GroupValue → ℕ × ℕ → Bool
has_link group link = list_any (same_pair link) group.links

-- a link is usable where it stands in some group
abbrev pub is_usable : TopologyValue → ℕ × ℕ → Bool
is_usable t link = list_any (λ group. has_link group link) t.groups

-- the usable links, each once, ascending by the node that they leave and then the one that they enter
abbrev pub usable_links : TopologyValue → List (ℕ × ℕ)
usable_links t = filter (is_usable t) (all_pairs t.nodes t.nodes)

-- a link joins two different nodes
pub record IsLink (link : ℕ × ℕ) : Type 0 where
  pub apart : link.0 ≢ link.1

-- at least one link, each once, and a width from 1 to 16
pub record IsGroup (group : GroupValue) : Type 0 where
  pub positive : 0 < group.width
  pub narrow : group.width ≤ 16
  pub some : 0 < length group.links
  pub each : All IsLink group.links
  pub distinct : AllPairs (λ a b. a ≢ b) group.links

-- each link joins nodes of the topology
pub record IsBelow (nodes : ℕ) (link : ℕ × ℕ) : Type 0 where
  pub from : link.0 < nodes
  pub to : link.1 < nodes

-- 1 to 16 nodes, and at most 256 groups
pub record IsTopology (t : TopologyValue) : Type 0 where
  pub some : 0 < t.nodes
  pub few : t.nodes ≤ 16
  pub limit : length t.groups ≤ 256
  pub groups : All IsGroup t.groups
  pub nodes : All (λ group. All (IsBelow t.nodes) group.links) t.groups

-- the topology with each link turned round in its place
abbrev pub turned : ℕ × ℕ → ℕ × ℕ
turned link = (link.1, link.0)

abbrev pub reversed_group : GroupValue → GroupValue
reversed_group group = record { links = map turned group.links; width = group.width }

abbrev pub reversed_of : TopologyValue → TopologyValue
reversed_of t = record { nodes = t.nodes; groups = map reversed_group t.groups }
