-- The adapters over the standard library's readers, writers and files, as their contracts see them. This project's own.
use Rattle.std.specs.{Prelude.{◌≡◌, ℕ, ◌≤◌, List, length, take, Option, Some, Result, IfOk, IfSome, OnErr}, Io.KnownBytes.{Appends, ReadConsumes}}

-- what a source reads from, and how many faults there were
pub record ReaderSourceValue (R : Type 0) : Type 0 where
  pub reader : R
  pub faults : ℕ

-- what a sink writes to, and how many faults there were
pub record WriterSinkValue (W : Type 0) : Type 0 where
  pub writer : W
  pub faults : ℕ

-- where the bytes of a writer are known: `Ok(n)` appended the first n bytes of the piece; a fault appended bytes from its front, or none
pub record WritesPiece {E : Type 0} (before now : Option (List ℕ)) (piece : List ℕ) (result : Result ℕ E) : Type 0 where
  pub appended : IfOk result (λ n. Appends before now (take n piece))
  pub fault : OnErr result ((k : ℕ) × (k ≤ length piece) × Appends before now (take k piece))

-- a known position moved to the place, and from there the bytes that were known were read
pub record ReadsFrom {F E : Type 0} (position : F → Option ℕ) (remaining : F → Option (List ℕ)) (before now : F) (place : ℕ) (buffer : List ℕ) (result : Result ℕ E) : Type 0 where
  pub there : F
  pub sought : IfSome (position before) (λ _. position there ≡ Some place)
  pub read : ReadConsumes (remaining there) (remaining now) result buffer
