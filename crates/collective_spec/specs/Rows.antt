-- Small collectives, on three nodes.
use Rattle.std.specs.Prelude.{ℕ, List, [], ◌∷◌}
use Rattle.schedule.specs.Placed.{PlacementValue}
use Rattle.collective_spec.specs.{declared.{kind.Kind.Kind, instance.Instance.Instance}, Collectives.{instance_of, demand_of}, Patterns.PatternValue}

-- so many chunks at three nodes, with these pairs
abbrev pub on_three : ℕ → List (ℕ × ℕ) → PlacementValue
on_three chunks pairs = record { chunks = chunks; nodes = 3; pairs = pairs }

-- so many chunks, which go from the one placement to the other
abbrev pub moves : ℕ → List (ℕ × ℕ) → List (ℕ × ℕ) → Instance
moves chunks before after = record { chunks = chunks; pre = on_three chunks before; post = on_three chunks after }

-- the instance and the demand of a collective, with node 1 as its root where it has one
abbrev pub instance_on_three : Kind → ℕ → Instance
instance_on_three kind c = instance_of (record { kind = kind; root = 1 }) 3 c

abbrev pub demand_on_three : Kind → ℕ → PlacementValue
demand_on_three kind c = demand_of (record { kind = kind; root = 1 }) 3 c

-- three chunks: all at node 1, each at the node of its number, and each at every node
abbrev pub rooted : List (ℕ × ℕ)
rooted = (0, 1) ∷ (1, 1) ∷ (2, 1) ∷ []

abbrev pub scattered : List (ℕ × ℕ)
scattered = (0, 0) ∷ (1, 1) ∷ (2, 2) ∷ []

abbrev pub everywhere : List (ℕ × ℕ)
everywhere = (0, 0) ∷ (0, 1) ∷ (0, 2) ∷ (1, 0) ∷ (1, 1) ∷ (1, 2) ∷ (2, 0) ∷ (2, 1) ∷ (2, 2) ∷ []

-- chunk 0 goes from node 0 to node 2, and chunk 1 stays at two nodes
abbrev pub two_given : PatternValue
two_given = record { base = 2; before = on_three 2 ((0, 0) ∷ (1, 1) ∷ (1, 2) ∷ []); after = on_three 2 ((0, 2) ∷ []) }
