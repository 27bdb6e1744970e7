use Rattle.std.proofs.Common.{take}
use Rattle.node_cuts.specs.Opened.{RemovesLinks}
use Rattle.node_cuts.proofs.open_links.OpenLinks.remove.Given as goal

abbrev pub invariant-loop-from : goal.invariant-loop-from
invariant-loop-from l = RemovesLinks l.initial.self.cells l.self.cells (take l.from-index l.links)
