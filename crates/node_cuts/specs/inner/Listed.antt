-- The listed sets as the code has them, and a set as it is given.
use Rattle.std.specs.{Prelude.{ℕ, ◌==◌, ◌||◌, ◌+◌, ◌-◌, not, List, ◌++◌, map}, List.{flat_map, range_with_len}}
use Rattle.node_cuts.specs.{declared.{members.Members.{Members, TheVariants.{Sided, Bits}}, side.Side.{Side, TheVariants.{One, Two, AllButOne, AllButTwo}}}, Sides.{NodeSet, has_bit}}

abbrev pub set_of : Side → NodeSet
set_of (One a) n = n == a
set_of (Two a b) n = n == a || n == b
set_of (AllButOne a) n = not (n == a)
set_of (AllButTwo a b) n = not (n == a || n == b)

abbrev pub complement : Side → Side
complement (One a) = AllButOne a
complement (Two a b) = AllButTwo a b
complement (AllButOne a) = One a
complement (AllButTwo a b) = Two a b

-- each two nodes of so many, the second of the greater number
abbrev pub two_sides : ℕ → List Side
two_sides nodes = flat_map (λ a. map (Two a) (range_with_len (a + 1) (nodes - (a + 1)))) (range_with_len 0 nodes)

-- each one node ascending, and then each two
abbrev pub small_sides : ℕ → List Side
small_sides nodes = map One (range_with_len 0 nodes) ++ two_sides nodes

-- these, and then the complements of these
abbrev pub listed_sides : ℕ → List Side
listed_sides nodes = small_sides nodes ++ map complement (small_sides nodes)

-- a set that is given as a side, or as bits
abbrev pub members : Members → NodeSet
members (Sided side) = set_of side
members (Bits bits) = has_bit bits
