-- Bags: how often each node has contributed (Cai et al., PPoPP 2021, collectives that combine chunks; the counts are this project's own).
use Rattle.std.specs.{Prelude.{◌==◌, ℕ, ◌+◌, Bool, if◌then◌else◌, List, map, min}, List.{list_all, range_with_len, zip}}
use Rattle.schedule.specs.Placed.{PlacementValue, holds, all_pairs}

-- how often each node has contributed, by node
abbrev pub Bag : Type 0
Bag = List ℕ

-- the bag of each chunk at each node
abbrev pub Bags : Type 0
Bags = ℕ × ℕ → Bag

abbrev pub empty_bag : ℕ → Bag
empty_bag nodes = map (λ _. 0) (range_with_len 0 nodes)

-- one contribution of a node
abbrev pub one_of : ℕ → ℕ → Bag
one_of nodes node = map (λ other. if other == node then 1 else 0) (range_with_len 0 nodes)

-- each node has contributed exactly once
abbrev pub one_of_each : ℕ → Bag
one_of_each nodes = map (λ _. 1) (range_with_len 0 nodes)

-- no node has contributed
abbrev pub is_empty : Bag → Bool
is_empty bag = list_all (λ count. count == 0) bag

-- the contributions of both, without a greatest count
abbrev pub added : Bag → Bag → Bag
added a b = map (λ (x, y). x + y) (zip a b)

-- counts as they are kept and printed: 2 stands for two or more
abbrev pub held_at_2 : Bag → Bag
held_at_2 bag = map (λ count. min count 2) bag

-- each node has contributed once to each of its chunks
abbrev pub contributions : ℕ → Bags
contributions nodes pair = one_of nodes pair.1

-- a chunk that is held is one contribution of node 0, and a chunk that is lacking is the empty bag
abbrev pub of_placement : PlacementValue → Bags
of_placement p pair = if holds p pair then one_of p.nodes 0 else empty_bag p.nodes

-- the bags of so many chunks at so many nodes, by chunk and then by node
abbrev pub listed : ℕ → ℕ → Bags → List Bag
listed chunks nodes bags = map bags (all_pairs chunks nodes)
