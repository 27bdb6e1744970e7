-- Why a file was not judged.
use Rattle.std.specs.Prelude.{ℕ}
use Rattle.outer_ports.specs.declared.shelf_fault.ShelfFault.{ShelfFault, TheVariants.{Failed, OutOfMemory as NoMemory}}
use Rattle.proof_audit.specs.declared.fault.AuditFault.{AuditFault, TheVariants.{ShelfFailed, OutOfMemory}}

abbrev pub fault_number : AuditFault → ℕ
fault_number ShelfFailed = 1
fault_number OutOfMemory = 2

abbrev pub fault_of : ShelfFault → AuditFault
fault_of Failed = ShelfFailed
fault_of NoMemory = OutOfMemory
