-- A placement as a table of truth values, a row of nodes for each chunk.
use Rattle.std.specs.Prelude.{ℕ, ◌+◌, ◌*◌, Bool, false, List, slice_index_or}
use Rattle.schedule.specs.Placed.{PlacementValue, placed}

-- the pairs whose cell is true
abbrev pub marked : ℕ → ℕ → List Bool → PlacementValue
marked chunks nodes cells = placed chunks nodes (λ pair. slice_index_or cells (pair.0 * nodes + pair.1) false)
