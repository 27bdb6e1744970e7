-- The variables of a heap or a queue.
use Rattle.std.specs.Prelude.{ℕ, ◌<◌}

-- the number is one of so many places
abbrev pub IsPlace : ℕ → ℕ → Type 0
IsPlace places v = v < places

-- the number names a variable, where tables by variable have so many places
abbrev pub IsVar : ℕ → ℕ → Type 0
IsVar places v = (0 < v) × (v < places)
