-- Which chunk stands at which node (Cai et al., PPoPP 2021, table of collectives).
use Rattle.std.specs.Prelude.{ℕ, ◌/◌, ◌%◌, ◌==◌, Bool, true}
use Rattle.collective_spec.specs.declared.layout.Layout.{Layout, TheVariants.{All, Root, Scattered, Transpose}}
use Rattle.schedule.specs.Placed.{PlacementValue, placed}

-- a pair of a chunk and one of P nodes belongs to the layout
abbrev pub stands : Layout → ℕ → ℕ × ℕ → Bool
stands All nodes pair = true
stands (Root root) nodes pair = pair.1 == root
stands Scattered nodes pair = pair.1 == pair.0 % nodes
stands Transpose nodes pair = pair.1 == pair.0 / nodes % nodes

-- the pairs of the layout, among so many chunks and nodes
abbrev pub laid_out : Layout → ℕ → ℕ → PlacementValue
laid_out layout chunks nodes = placed chunks nodes (stands layout nodes)
