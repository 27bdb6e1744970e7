-- How bags are kept: with places for the counts of 16 nodes (this project's own).
use Rattle.std.specs.{Prelude.{◌≡◌, ℕ, ◌*◌, ◌≤◌, Bool, if◌then◌else◌, List, length, map, replicate, slice_index, slice_set}, List.{AllByRecursion, range_with_len}}
use Rattle.schedule.specs.Bags.{Bag}
use Rattle.bag_runs.specs.Stores.{StoreValue, bags_in, stored}

-- the counts of so many nodes, 0 for those that have no place
abbrev pub counted : ℕ → List ℕ → Bag
counted nodes counts = map (λ node. slice_index counts node) (range_with_len 0 nodes)

-- the places of no contribution, and of one of a node
abbrev pub no_counts : List ℕ
no_counts = replicate 16 0

abbrev pub counts_of : ℕ → List ℕ
counts_of node = slice_set no_counts node 1

-- one contribution of node 0, or none
abbrev pub counts_where : Bool → List ℕ
counts_where held = if held then counts_of 0 else no_counts

-- no count is above 2
abbrev pub IsHeld : List ℕ → Type 0
IsHeld counts = (node : ℕ) → slice_index counts node ≤ 2

-- a store has a bag for each chunk at each node, with counts held at 2
abbrev pub IsStore : StoreValue → Type 0
IsStore s = s ≡ stored s.chunks s.nodes (bags_in s)

-- as many bags as pairs of a chunk and a node, each held at 2
pub record IsFilled (chunks nodes : ℕ) (bags : List (List ℕ)) : Type 0 where
  pub size : length bags ≡ chunks * nodes
  pub held : AllByRecursion IsHeld bags
