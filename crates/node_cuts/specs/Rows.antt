-- Small questions, whose cuts are known.
use Rattle.std.specs.Prelude.{ℕ, false, List, [], ◌∷◌, ◌++◌, Option}
use Rattle.schedule.specs.{Links.{GroupValue, TopologyValue}, Placed.{PlacementValue, placed}, Rows.only}
use Rattle.collective_spec.specs.{declared.{kind.Kind.Kind, spec.Spec.Spec}, Collectives.spec_instance}
use Rattle.collective_spec.specs.declared.spec.Spec.TheVariants as spec
use Rattle.node_cuts.specs.{declared.{sets.Sets.Sets, floor.Floor.Floor}, Cuts.{CutValue, first_cut_of}, Floors.floor_of}

-- the standard collective of a kind, with node 0 as its root
abbrev pub standard : Kind → Spec
standard kind = spec.Standard (record { kind = kind; root = 0 })

-- the first cut of a candidate of so many rounds and such a chunk count
abbrev pub cut_at : Sets → TopologyValue → Kind → ℕ → ℕ → Option CutValue
cut_at sets t kind rounds c = let i = spec_instance (standard kind) t.nodes c in first_cut_of sets t i.pre i.post rounds

abbrev pub floor_at : Sets → TopologyValue → Kind → Floor
floor_at sets t kind = floor_of sets t (standard kind)

-- a set of nodes, the groups that lead into it, what has to come in and what can
abbrev pub cut : ℕ → List ℕ → ℕ → ℕ → CutValue
cut nodes groups need width = record { nodes = nodes; groups = groups; need = need; width = width }

-- a group of so many links that carries two chunks a round
abbrev pub port : List (ℕ × ℕ) → GroupValue
port links = record { links = links; width = 2 }

-- what leaves each of three nodes, and what comes to each
abbrev pub ports_out : List GroupValue
ports_out = port ((0, 1) ∷ (0, 2) ∷ []) ∷ port ((1, 0) ∷ (1, 2) ∷ []) ∷ port ((2, 0) ∷ (2, 1) ∷ []) ∷ []

abbrev pub ports_in : List GroupValue
ports_in = port ((1, 0) ∷ (2, 0) ∷ []) ∷ port ((0, 1) ∷ (2, 1) ∷ []) ∷ port ((0, 2) ∷ (1, 2) ∷ []) ∷ []

-- three nodes at a switch, with the groups of what leaves a node first, and the same with them last
abbrev pub switch_out_first : TopologyValue
switch_out_first = record { nodes = 3; groups = ports_out ++ ports_in }

abbrev pub switch_in_first : TopologyValue
switch_in_first = record { nodes = 3; groups = ports_in ++ ports_out }

-- three links into node 0: the middle group has all, each other one alone
abbrev pub one_for_all : TopologyValue
one_for_all = record { nodes = 4; groups = only 1 0 1 ∷ record { links = (1, 0) ∷ (2, 0) ∷ (3, 0) ∷ []; width = 1 } ∷ only 3 0 1 ∷ [] }

-- two pairs of nodes, each joined both ways, and a cable between the pairs that carries one chunk a round each way, from either node to its fellow
abbrev pub two_pairs : TopologyValue
two_pairs = record {
  nodes = 4;
  groups = only 0 1 2 ∷ only 1 0 2 ∷ only 2 3 2 ∷ only 3 2 2 ∷ record { links = (0, 2) ∷ (1, 3) ∷ []; width = 1 } ∷ record { links = (2, 0) ∷ (3, 1) ∷ []; width = 1 } ∷ [];
}

-- no node has a chunk
abbrev pub nowhere : ℕ → ℕ → PlacementValue
nowhere chunks nodes = placed chunks nodes (λ pair. false)
