-- Why a search could not end.
use Rattle.ledger_rules.specs.declared.fault.LedgerFault.{LedgerFault, TheVariants.{Failed, OutOfMemory as NoMemory}}
use Rattle.sat_core.specs.declared.fault.SolveFault.{SolveFault, TheVariants.{LedgerFailed, OutOfMemory}}

abbrev pub fault_of : LedgerFault → SolveFault
fault_of Failed = LedgerFailed
fault_of NoMemory = OutOfMemory
