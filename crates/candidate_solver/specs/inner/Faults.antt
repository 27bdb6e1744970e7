-- Why a candidate could not be settled, where its search failed.
use Rattle.sat_core.specs.declared.fault.SolveFault.{SolveFault}
use Rattle.sat_core.specs.declared.fault.SolveFault.TheVariants as solving
use Rattle.engine_rules.specs.declared.fault.EngineFault.{EngineFault, TheVariants.{ShelfFailed, OutOfMemory}}

abbrev pub of_solving : SolveFault → EngineFault
of_solving solving.LedgerFailed = ShelfFailed
of_solving solving.OutOfMemory = OutOfMemory
