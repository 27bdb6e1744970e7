-- What a judgement of a file says to an engine.
use Rattle.std.specs.Prelude.{Bool, true, false, Result, Ok, Err}
use Rattle.proof_audit.specs.declared.{fault.AuditFault.AuditFault, verdict.FileVerdict.{FileVerdict, TheVariants.{Missing, Refused, Stands}}}
use Rattle.proof_audit.specs.declared.fault.AuditFault.TheVariants as audit
use Rattle.engine_rules.specs.declared.fault.EngineFault.{EngineFault, TheVariants.{ShelfFailed, OutOfMemory}}

abbrev pub stands : Result FileVerdict AuditFault → Result Bool EngineFault
stands (Ok Stands) = Ok true
stands (Ok Missing) = Ok false
stands (Ok Refused) = Ok false
stands (Err audit.ShelfFailed) = Err ShelfFailed
stands (Err audit.OutOfMemory) = Err OutOfMemory
