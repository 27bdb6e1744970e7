-- Files that stay open. This project's own.
use Rattle.std.specs.Prelude.{◌≡◌, Option, Some}
use Rattle.outer_ports.specs.declared.{open_files.OpenFiles.OpenFiles, proof_name.{FileKind.{FileKind, TheVariants.{Cnf, Lrat, Partial}}, ProofName.ProofName}}

-- the open file of a kind, with its name
abbrev pub open_of : {F : Type 0} → OpenFiles F → FileKind → Option (ProofName × F)
open_of files Cnf = files.cnf
open_of files Lrat = files.lrat
open_of files Partial = files.partial

-- the file is open, and was left so under this name
abbrev pub Holds : {F : Type 0} → OpenFiles F → ProofName → F → Type 0
Holds files name file = open_of files name.kind ≡ Some (name, file)
