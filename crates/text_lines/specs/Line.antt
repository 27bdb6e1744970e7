-- A line by its place in the text.
use Rattle.std.specs.Prelude.{ℕ, ◌+◌, ◌≤◌, if◌then◌else◌, List, length, slice_range}
use Rattle.text_lines.specs.{declared.line.Line.Line, Text.Row}

-- the place of a line is a part of the text
abbrev pub IsIn : List ℕ → Line → Type 0
IsIn text line = (line.start ≤ line.end) × (line.end ≤ length text)

-- the line at that place
abbrev pub row_at : List ℕ → Line → Row
row_at text line = record { bytes = slice_range text line.start line.end; whole = line.whole }

-- the place behind it and its line feed
abbrev pub after : Line → ℕ
after line = if line.whole then line.end + 1 else line.end
