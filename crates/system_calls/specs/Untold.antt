-- What calls that tell nothing are said to tell, and nobody reads. This project's own.
use Rattle.std.specs.Prelude.{[], None, false}
use Rattle.outer_ports.specs.Disks.{Disk}

abbrev pub no_disk : Disk
no_disk = record { number = λ _. None; odd = λ _. false; bytes = λ _. [] }
