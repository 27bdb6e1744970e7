-- Why a ledger could not take a line.
use Rattle.outer_ports.specs.declared.shelf_fault.ShelfFault.{ShelfFault, TheVariants.{Failed as ShelfFailed, OutOfMemory as NoMemory}}
use Rattle.ledger_rules.specs.declared.fault.LedgerFault.{LedgerFault, TheVariants.{Failed, OutOfMemory}}

abbrev pub fault_of : ShelfFault → LedgerFault
fault_of ShelfFailed = Failed
fault_of NoMemory = OutOfMemory
