-- Why there is no answer.
use Rattle.engine_rules.specs.declared.fault.EngineFault.{EngineFault}
use Rattle.engine_rules.specs.declared.fault.EngineFault.TheVariants as engine
use Rattle.proof_audit.specs.declared.fault.AuditFault.{AuditFault}
use Rattle.proof_audit.specs.declared.fault.AuditFault.TheVariants as audit
use Rattle.run_rules.specs.declared.halt.Halt.{Halt, TheVariants.{Memory, Shelf}}

abbrev pub halt_of : EngineFault → Halt
halt_of engine.ShelfFailed = Shelf
halt_of engine.OutOfMemory = Memory

abbrev pub halt_of_audit : AuditFault → Halt
halt_of_audit audit.ShelfFailed = Shelf
halt_of_audit audit.OutOfMemory = Memory
