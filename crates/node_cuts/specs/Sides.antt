-- The sets of nodes that are looked at: each one node, each two nodes and all nodes but these, or every set. This project's own.
use Rattle.std.specs.{Prelude.{ℕ, ◌==◌, ◌||◌, ◌+◌, ◌-◌, ◌/◌, ◌%◌, ◌^◌, not, Bool, if◌then◌else◌, List, [], ◌++◌, map}, List.{flat_map, range_with_len, sum_by}}
use Rattle.node_cuts.specs.declared.sets.Sets.{Sets, TheVariants.{Nothing, Listed, All}}

-- a set of nodes, by a test of its members
abbrev pub NodeSet : Type 0
NodeSet = ℕ → Bool

-- each one node ascending, and then each two of so many, the second of the greater number
abbrev pub small_sets : ℕ → List NodeSet
small_sets nodes = map (λ a n. n == a) (range_with_len 0 nodes)
    ++ flat_map (λ a. map (λ b n. n == a || n == b) (range_with_len (a + 1) (nodes - (a + 1)))) (range_with_len 0 nodes)

-- the bit of the node is set
abbrev pub has_bit : ℕ → ℕ → Bool
has_bit mask n = mask / 2 ^ n % 2 == 1

-- bit n stands for node n
abbrev pub mask_of : ℕ → NodeSet → ℕ
mask_of nodes u = sum_by (λ n. if u n then 2 ^ n else 0) (range_with_len 0 nodes)

-- no set, the small sets and then all nodes but these, or each set but the empty one, ascending by its bits
abbrev pub node_sets : Sets → ℕ → List NodeSet
node_sets Nothing nodes = []
node_sets Listed nodes = small_sets nodes ++ map (λ u n. not (u n)) (small_sets nodes)
node_sets All nodes = map has_bit (range_with_len 1 (2 ^ nodes - 1))
