-- The ports in memory, as their contracts see them. This project's own.
use Rattle.std.specs.Prelude.{ℕ, ◌+◌, List, min}

-- bytes that are left, the most that one call gives, the numbers of the calls that fail, and how many calls and faults there were
pub record MemorySourceValue : Type 0 where
  pub left : List ℕ
  pub piece : ℕ
  pub fails : List ℕ
  pub calls : ℕ
  pub faults : ℕ

-- bytes that were written, the most that one call takes, and the rest as of a source
pub record MemorySinkValue : Type 0 where
  pub written : List ℕ
  pub piece : ℕ
  pub fails : List ℕ
  pub calls : ℕ
  pub faults : ℕ

-- the first bytes that were written, and how many were written in all
pub record SureSinkValue : Type 0 where
  pub kept : List ℕ
  pub count : ℕ

-- the bytes that a sink in memory has room for
abbrev pub sink_room : ℕ
sink_room = 2097152

-- a count after one more, which stands still at its last value
abbrev pub next_count : ℕ → ℕ
next_count n = min (n + 1) 18446744073709551615
