-- Files in memory, as contracts see them. This project's own.
use Rattle.std.specs.{Option.option_map, BTreeMap.get, declared.cmp.Ordering.Ordering}
use Rattle.outer_ports.specs.{declared.{proof_name.ProofName.ProofName, file_map.FileMap.FileMap}, Files.Files}

-- the files that a map keeps, whose names are in this order
abbrev pub files_in : (ProofName → ProofName → Ordering) → FileMap → Files
files_in order map name = option_map (λ bytes. bytes.items) (get order map.files name)
