-- The variables of arrivals and sends, in the order of their numbers (Cai et al., PPoPP 2021, section on the encoding; the numbers are this project's own).
use Rattle.std.specs.{Prelude.{ℕ, ◌+◌, ◌-◌, ◌*◌, ◌/◌, ◌%◌, ◌==◌, ◌<◌, ◌≤◌, List, length, map, filter, All}, List.{range_with_len, enumerate_from, position_or_len}}
use Rattle.schedule.specs.{Links.{TopologyValue, IsBelow, usable_links}, Placed.{PlacementValue, same_pair}}
use Rattle.cnf_formula.specs.Literals.{LitValue, yes}

-- so many chunks and nodes, the usable links in ascending order, and so many steps
pub record SendMapValue : Type 0 where
  pub chunks : ℕ
  pub nodes : ℕ
  pub links : List (ℕ × ℕ)
  pub steps : ℕ

abbrev pub map_of : TopologyValue → PlacementValue → ℕ → SendMapValue
map_of t pre steps = record { chunks = pre.chunks; nodes = t.nodes; links = usable_links t; steps = steps }

-- chunks, nodes and links are numbered from 0, and steps from 1
abbrev pub steps_of : SendMapValue → List ℕ
steps_of m = range_with_len 1 m.steps

-- the links that lead into a node, with their numbers
abbrev pub links_into : SendMapValue → ℕ → List (ℕ × (ℕ × ℕ))
links_into m node = filter (λ (e, link). link.1 == node) (enumerate_from 0 m.links)

-- the node has the chunk after the step; step 0 is the start
abbrev pub arrival : SendMapValue → ℕ → ℕ → ℕ → LitValue
arrival m chunk node step = yes (1 + (chunk * m.nodes + node) * (m.steps + 1) + step)

abbrev pub arrivals : SendMapValue → ℕ
arrivals m = m.chunks * m.nodes * (m.steps + 1)

-- the chunk is sent over the link of this number at the step
abbrev pub sent : SendMapValue → ℕ → ℕ → ℕ → LitValue
sent m chunk e step = yes (arrivals m + 1 + (chunk * length m.links + e) * m.steps + (step - 1))

abbrev pub sends : SendMapValue → ℕ
sends m = m.chunks * length m.links * m.steps

-- the links join nodes, and there are not too many variables
pub record IsSendMap (m : SendMapValue) : Type 0 where
  pub links : All (IsBelow m.nodes) m.links
  pub many : length m.links ≤ 256
  pub few : arrivals m + sends m < 2097152
  pub short : m.steps ≤ 255

-- the number of a link, or that of all where it is not usable
abbrev pub link_number : SendMapValue → ℕ × ℕ → ℕ
link_number m link = position_or_len (same_pair link) m.links

-- the number of each link between nodes below 16, among these
abbrev pub numbers_among : List (ℕ × ℕ) → List ℕ
numbers_among links = map (λ k. position_or_len (same_pair (k / 16, k % 16)) links) (range_with_len 0 256)
