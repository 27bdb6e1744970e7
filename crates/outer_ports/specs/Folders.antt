-- The files of a folder, as contracts see them. This project's own.
use Rattle.std.specs.Prelude.{ℕ, Bool, ◌&&◌, List, ◌++◌, None, codes, if◌then◌else◌, nat_le}
use Rattle.outer_ports.specs.{declared.proof_name.ProofName.ProofName, Disks.{Disk, bytes_at}, Files.{Files, file_word}}

-- the path of a file of the folder
abbrev pub path_in : List ℕ → ProofName → List ℕ
path_in folder name = folder ++ codes "/" ++ file_word name

-- the path of a file of the folder that has no name of its own yet
abbrev pub fresh_in : List ℕ → List ℕ
fresh_in folder = folder ++ codes "/new"

-- the numbers of a name are those that it can have
abbrev pub in_range : ProofName → Bool
in_range name = nat_le name.s 255 && nat_le name.r 255 && nat_le name.c 255

-- the files of a folder
abbrev pub files_in_folder : Disk → List ℕ → Files
files_in_folder disk folder name = if in_range name then bytes_at disk (path_in folder name) else None
