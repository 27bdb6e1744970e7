-- Why a candidate could not be settled, by the fault of what it stands on.
use Rattle.outer_ports.specs.declared.shelf_fault.ShelfFault.{ShelfFault}
use Rattle.outer_ports.specs.declared.shelf_fault.ShelfFault.TheVariants as shelf
use Rattle.ledger_rules.specs.declared.fault.LedgerFault.{LedgerFault}
use Rattle.ledger_rules.specs.declared.fault.LedgerFault.TheVariants as ledger
use Rattle.engine_rules.specs.declared.fault.EngineFault.{EngineFault, TheVariants.{ShelfFailed, OutOfMemory}}

abbrev pub of_shelf : ShelfFault → EngineFault
of_shelf shelf.Failed = ShelfFailed
of_shelf shelf.OutOfMemory = OutOfMemory

abbrev pub of_ledger : LedgerFault → EngineFault
of_ledger ledger.Failed = ShelfFailed
of_ledger ledger.OutOfMemory = OutOfMemory
