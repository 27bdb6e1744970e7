-- Sets of places, as words of 64 bits.
use Rattle.std.specs.Prelude.{ℕ, ◌/◌, ◌%◌, List, get_or, IsBitSet}

-- the place is in the set
abbrev pub HasPlace : List ℕ → ℕ → Type 0
HasPlace words k = IsBitSet (get_or words (k / 64) 0) (k % 64)
