-- What calls of a file system leave as it was. This project's own.
use Rattle.std.specs.Prelude.{◌≡◌, ◌≢◌, ℕ, List, Option, Some, IsTrue}
use Rattle.outer_ports.specs.{declared.{proof_name.ProofName.ProofName, open_files.OpenFiles.OpenFiles}, Disks.{Disk, bytes_at}, Folders.{in_range, path_in}, inner.OpenFiles.Holds}

-- the file of the path has this number, and has no other path
pub record IsOwn (disk : Disk) (path : List ℕ) (n : ℕ) : Type 0 where
  pub here : disk.number path ≡ Some n
  pub alone : (other : List ℕ) → other ≢ path → disk.number other ≢ Some n

-- the files of these paths stay as they were, and which of them have no other path
pub record Spares (spared : List ℕ → Type 0) (before now : Disk) : Type 0 where
  pub number : (path : List ℕ) → spared path → now.number path ≡ before.number path
  pub bytes : (path : List ℕ) → spared path → bytes_at now path ≡ bytes_at before path
  pub own : (path : List ℕ) (n : ℕ) → spared path → IsOwn before path n → IsOwn now path n

-- a path that is another one
pub record IsOther (first path : List ℕ) : Type 0 where
  pub not_first : path ≢ first

-- a path that is neither of two
pub record IsNeither (first second path : List ℕ) : Type 0 where
  pub not_first : path ≢ first
  pub not_second : path ≢ second

-- the file of this number is that of the name alone
pub record IsHeld (disk : Disk) (folder : List ℕ) (name : ProofName) (n : ℕ) : Type 0 where
  pub range : IsTrue (in_range name)
  pub own : IsOwn disk (path_in folder name) n

-- the file of this number is that of the name
pub record IsRead (disk : Disk) (folder : List ℕ) (name : ProofName) (n : ℕ) : Type 0 where
  pub range : IsTrue (in_range name)
  pub here : disk.number (path_in folder name) ≡ Some n

-- each file that stays open for appending is that of its name alone
abbrev pub AllHeld : {F : Type 0} → (F → ℕ) → Disk → List ℕ → OpenFiles F → Type 0
AllHeld {F} number disk folder begun = (name : ProofName) (file : F) → Holds begun name file → IsHeld disk folder name (number file)

-- the one that stays open for reading is that of its name
abbrev pub AllRead : {F : Type 0} → (F → ℕ) → Disk → List ℕ → Option (ProofName × F) → Type 0
AllRead {F} number disk folder reading = (name : ProofName) (file : F) → reading ≡ Some (name, file) → IsRead disk folder name (number file)
