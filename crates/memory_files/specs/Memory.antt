-- A file system in memory, as contracts see it. This project's own.
use Rattle.std.specs.{Prelude.{ℕ, List, [], Vec, String, false}, BTreeMap.{BTreeMap, get_by_text}, Option.option_map_or, List.slice_get}
use Rattle.outer_ports.specs.Disks.{Disk}

-- the bytes of the file of a number, of which there may be none
abbrev pub bytes_of : {A : Type 0} → List (Vec ℕ A) → ℕ → List ℕ
bytes_of files n = option_map_or (λ file. file.items) (slice_get files n) []

-- the files of names
abbrev pub disk_of : {A B : Type 0} → BTreeMap (String A) ℕ → List (Vec ℕ B) → Disk
disk_of names files = record { number = get_by_text names; odd = λ _. false; bytes = bytes_of files }
