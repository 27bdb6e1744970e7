-- Stores: the bag of each chunk at each node, with counts held at 2, and what becomes of a bag where another arrives (this project's own).
use Rattle.std.specs.Prelude.{ℕ, ◌+◌, ◌*◌, if◌then◌else◌, List, [], map, nat_le, slice_index_or, slice_set}
use Rattle.schedule.specs.{Placed.all_pairs, Bags.{Bag, Bags, added, held_at_2, is_empty}}
use Rattle.bag_runs.specs.declared.mode.Mode.{Mode}
use Rattle.bag_runs.specs.declared.mode.Mode.TheVariants as mode

-- the first so many steps add what arrives, and later ones copy it
abbrev pub mode_at : ℕ → ℕ → Mode
mode_at adding step = if nat_le step adding then mode.Add else mode.Copy

-- what becomes of a bag where another arrives: their sum, where a count of 2 stands for two or more, or the other unless it is empty
abbrev pub received : Mode → Bag → Bag → Bag
received mode.Add old bag = held_at_2 (added old bag)
received mode.Copy old bag = if is_empty bag then old else bag

-- so many chunks and nodes, and the bag of each chunk at each node, by chunk and then by node
pub record StoreValue : Type 0 where
  pub chunks : ℕ
  pub nodes : ℕ
  pub bags : List Bag

-- the bags with their counts held at 2
abbrev pub stored : ℕ → ℕ → Bags → StoreValue
stored chunks nodes bags = record { chunks = chunks; nodes = nodes; bags = map (λ pair. held_at_2 (bags pair)) (all_pairs chunks nodes) }

abbrev pub bag_in : StoreValue → ℕ → ℕ → Bag
bag_in s chunk node = slice_index_or s.bags (chunk * s.nodes + node) []

abbrev pub bags_in : StoreValue → Bags
bags_in s pair = bag_in s pair.0 pair.1

abbrev pub with_bag : StoreValue → ℕ → ℕ → Bag → StoreValue
with_bag s chunk node bag = record { chunks = s.chunks; nodes = s.nodes; bags = slice_set s.bags (chunk * s.nodes + node) bag }
