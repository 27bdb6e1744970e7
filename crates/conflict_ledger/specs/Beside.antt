-- A ledger, and the shelf that is lent to it.
use Rattle.std.specs.Prelude.{Bool}
use Rattle.outer_ports.specs.Files.{Files}
use Rattle.conflict_ledger.specs.{declared.shelved.ShelfLedger.ShelfLedger, Shelved.LedgerState}

abbrev pub beside : ShelfLedger → Bool → Files → LedgerState
beside ledger told files = record { base = ledger.counted.base.now; lrat = ledger.lrat; partial = ledger.partial; told = told; files = files }
