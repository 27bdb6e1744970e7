-- A table of truth values, one for each link between nodes below 16.
use Rattle.std.specs.{Prelude.{◌≡◌, ℕ, ◌+◌, ◌*◌, ◌<◌, ◌||◌, Bool, false, List, slice_index_or}, List.list_any}
use Rattle.schedule.specs.Placed.{same_pair}

-- what the table says of a link
abbrev pub marked_at : List Bool → ℕ × ℕ → Bool
marked_at cells link = slice_index_or cells (link.0 * 16 + link.1) false

-- the table says of each link what the test says
abbrev pub Marks : List Bool → (ℕ × ℕ → Bool) → Type 0
Marks cells test = (link : ℕ × ℕ) → link.0 < 16 → link.1 < 16 → marked_at cells link ≡ test link

-- the new table has these links too
abbrev pub AddsLinks : List Bool → List Bool → List (ℕ × ℕ) → Type 0
AddsLinks old new links = Marks new (λ link. marked_at old link || list_any (same_pair link) links)

-- a link between nodes below 16
abbrev pub IsTabled : ℕ × ℕ → Type 0
IsTabled link = (link.0 < 16) × (link.1 < 16)
