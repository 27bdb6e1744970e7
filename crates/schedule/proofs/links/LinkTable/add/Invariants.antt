use Rattle.std.proofs.Common.{take}
use Rattle.schedule.specs.Tables.{AddsLinks}
use Rattle.schedule.proofs.links.LinkTable.add.Given as goal

abbrev pub invariant-loop-from : goal.invariant-loop-from
invariant-loop-from l = AddsLinks l.initial.self.cells l.self.cells (take l.from-index l.links)
