-- A file system, as single calls of it see it. This project's own.
use Rattle.std.specs.{Prelude.{◌≡◌, ◌≢◌, ◌⊎◌, ℕ, Bool, false, List, [], ◌++◌, Option, None, Some, Result, IfErr, IfOk, OnOk}, Fs.{file_type, IsFile, IsSymlink}, Option.option_map, declared.fs.attrs.Metadata.Metadata}
use Rattle.outer_ports.specs.Port.{Rose}

-- the number of the file of a path, which each name of one file has; whether a thing stands under a path that is neither a file nor a link; and the bytes of each file, by its number
pub record Disk : Type 0 where
  pub number : List ℕ → Option ℕ
  pub odd : List ℕ → Bool
  pub bytes : ℕ → List ℕ

-- the bytes of the file of a path, where there is one
abbrev pub bytes_at : Disk → List ℕ → Option (List ℕ)
bytes_at disk path = option_map disk.bytes (disk.number path)

-- what was found under a path, which may be a link itself; some errors say that nothing stands there
pub record Looks {E : Type 0} (nothing : E → Type 0) (disk : Disk) (path : List ℕ) (result : Result Metadata E) : Type 0 where
  pub file : IfOk result (λ found. IsFile (file_type found) → disk.number path ≢ None)
  pub link : IfOk result (λ found. IsSymlink (file_type found) → disk.number path ≡ None)
  pub plain : IfOk result (λ found. IsFile (file_type found) ⊎ IsSymlink (file_type found) → disk.odd path ≡ false)
  pub missing : IfErr result (λ error. nothing error → (disk.number path ≡ None) × (disk.odd path ≡ false))

-- a folder was made under a path, where nothing stood
pub record MakesFolder (path : List ℕ) (before now : Disk) : Type 0 where
  pub number : now.number ≡ before.number
  pub bytes : now.bytes ≡ before.bytes
  pub odd : (other : List ℕ) → other ≢ path → now.odd other ≡ before.odd other

-- an empty file was made under a path, where nothing stood
pub record MakesFile (path : List ℕ) (n : ℕ) (before now : Disk) : Type 0 where
  pub fresh : (other : List ℕ) → before.number other ≢ Some n
  pub here : now.number path ≡ Some n
  pub empty : now.bytes n ≡ []
  pub names : (other : List ℕ) → other ≢ path → now.number other ≡ before.number other
  pub bytes : (other : ℕ) → other ≢ n → now.bytes other ≡ before.bytes other
  pub odd : now.odd ≡ before.odd

-- a name was taken away
pub record Removes (path : List ℕ) (before now : Disk) : Type 0 where
  pub gone : now.number path ≡ None
  pub names : (other : List ℕ) → other ≢ path → now.number other ≡ before.number other
  pub bytes : now.bytes ≡ before.bytes
  pub odd : (other : List ℕ) → other ≢ path → now.odd other ≡ before.odd other

-- the file of one path has the other as its name, in place of what stood there
pub record Renames (from to : List ℕ) (before now : Disk) : Type 0 where
  pub here : now.number to ≡ before.number from
  pub gone : now.number from ≡ None
  pub names : (other : List ℕ) → other ≢ from → other ≢ to → now.number other ≡ before.number other
  pub bytes : now.bytes ≡ before.bytes
  pub odd : (other : List ℕ) → other ≢ from → other ≢ to → now.odd other ≡ before.odd other

-- the piece was appended to the file of this number
pub record Writes (n : ℕ) (piece : List ℕ) (before now : Disk) : Type 0 where
  pub appended : now.bytes n ≡ before.bytes n ++ piece
  pub others : (other : ℕ) → other ≢ n → now.bytes other ≡ before.bytes other
  pub number : now.number ≡ before.number
  pub odd : now.odd ≡ before.odd

-- a fault raised the count, or that stands at its last value; every other answer left it as it was, and so did an error that tells something
pub record Counts {T E : Type 0} (tells : E → Type 0) (before now : ℕ) (result : Result T E) : Type 0 where
  pub rose : IfErr result (λ error. (tells error → ⊥) → Rose before now)
  pub told : IfErr result (λ error. tells error → now ≡ before)
  pub stays : OnOk result (now ≡ before)
