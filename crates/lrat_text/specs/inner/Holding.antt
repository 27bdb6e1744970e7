-- The lines among the bytes that a reader holds.
use Rattle.std.specs.Prelude.{◌≡◌, ◌≢◌, ℕ, ◌+◌, ◌^◌, ◌<◌, ◌≤◌, ◌||◌, Bool, true, List, ◌∷◌, length, drop, slice_index, slice_range}
use Rattle.text_lines.specs.Text.{Row, rows_of}
use Rattle.lrat_text.specs.{declared.holding.HeldLine.HeldLine, Reading.size_of}

-- no line feed stands from one place on and before another
abbrev pub IsClear : List ℕ → ℕ → ℕ → Type 0
IsClear bytes from to = (k : ℕ) → from ≤ k → k < to → slice_index bytes k ≢ 10

-- the line from a place to an end
abbrev pub row_at : List ℕ → ℕ → HeldLine → Row
row_at bytes from line = record { bytes = slice_range bytes from line.end; whole = line.whole }

-- the first line from a place on, which may be read: a line feed ends it, or no more bytes come
pub record IsFirstFrom (bytes : List ℕ) (finished : Bool) (from : ℕ) (line : HeldLine) : Type 0 where
  pub rows : rows_of (drop from bytes) ≡ row_at bytes from line ∷ rows_of (drop line.behind bytes)
  pub ended : (line.whole || finished) ≡ true
  pub ordered : from ≤ line.end
  pub after : line.end ≤ line.behind
  pub some : from < line.behind
  pub within : line.behind ≤ length bytes
  pub size : line.behind ≡ from + size_of (row_at bytes from line)

-- bytes of which those from a start on are still to be read, and the first so many of these were searched for a line feed and have none
pub record IsHolding (bytes : List ℕ) (start searched place : ℕ) : Type 0 where
  pub within : start + searched ≤ length bytes
  pub clear : IsClear (drop start bytes) 0 searched
  pub room : place + length (drop start bytes) < 2 ^ 64
