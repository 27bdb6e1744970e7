-- What every shelf of proof files says of its files. This project's own.
use Rattle.std.specs.{Prelude.{◌≡◌, ◌≢◌, ℕ, ◌<◌, ◌≤◌, ◌↔◌, List, [], ◌++◌, length, take, drop, Option, Some, None, Result, IfOk, IfSome, OnErr, OnOk}, Option.unwrap_or}
use Rattle.outer_ports.specs.{declared.proof_name.ProofName.ProofName, Files.Files}

-- every file stays as it was
abbrev pub FilesStay : Files → Files → Type 0
FilesStay before now = (name : ProofName) → now name ≡ before name

-- every file but this one stays as it was
abbrev pub OthersStay : ProofName → Files → Files → Type 0
OthersStay name before now = (other : ProofName) → other ≢ name → now other ≡ before other

-- the bytes of a file, where a name that has none counts as an empty file
abbrev pub bytes_in : Files → ProofName → List ℕ
bytes_in files name = unwrap_or (files name) []

-- `Ok` left the file there and empty; a fault changed no file
pub record Begins {T E : Type 0} (before now : Files) (name : ProofName) (result : Result T E) : Type 0 where
  pub begun : OnOk result (now name ≡ Some [])
  pub others : OthersStay name before now
  pub fault : OnErr result (FilesStay before now)

-- `Ok(n)` appended the first n bytes of the piece to the file; a fault changed no file
pub record AppendsTo {E : Type 0} (before now : Files) (name : ProofName) (piece : List ℕ) (result : Result ℕ E) : Type 0 where
  pub appended : IfOk result (λ n. now name ≡ Some (bytes_in before name ++ take n piece))
  pub others : OthersStay name before now
  pub fault : OnErr result (FilesStay before now)

-- the first n bytes of the buffer are those that stand at the place, and a buffer with room gets none exactly at or past the end
pub record HoldsBytes (bytes : List ℕ) (place : ℕ) (buffer : List ℕ) (n : ℕ) : Type 0 where
  pub copied : take n buffer ≡ take n (drop place bytes)
  pub end : 0 < length buffer → (n ≡ 0) ↔ (length bytes ≤ place)

-- `None` exactly where no file has the name, and else so many bytes of the file into the buffer
pub record ReadsAt {E : Type 0} (files : Files) (name : ProofName) (place : ℕ) (buffer : List ℕ) (result : Result (Option ℕ) E) : Type 0 where
  pub none : IfOk result (λ count. (count ≡ None) ↔ (files name ≡ None))
  pub some : (bytes : List ℕ) → files name ≡ Some bytes → IfOk result (λ count. IfSome count (HoldsBytes bytes place buffer))
