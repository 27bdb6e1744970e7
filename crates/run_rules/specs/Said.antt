-- What is said of an answer: its status and its text, and the files of the shelf. This project's own.
use Rattle.std.specs.Prelude.{◌≡◌, ℕ, Bool, IsTrue, List}
use Rattle.outer_ports.specs.{Files.Files, Shelf.FilesStay}
use Rattle.run_rules.specs.declared.status.Status.{Status}

-- the files of the shelf before and after, and whether it tells them
pub record FilesValue : Type 0 where
  pub told : Bool
  pub before : Files
  pub after : Files

-- no file changed, as far as the shelf tells
abbrev pub Stay : FilesValue → Type 0
Stay files = IsTrue files.told → FilesStay files.before files.after

-- this status and this text
pub record Says (said : Status) (words : List ℕ) (ended : Status) (written : List ℕ) : Type 0 where
  pub status : ended ≡ said
  pub text : written ≡ words

-- just that, and no file changed
pub record IsSaid (said : Status) (words : List ℕ) (files : FilesValue) (status : Status) (text : List ℕ) : Type 0 where
  pub says : Says said words status text
  pub stay : Stay files
