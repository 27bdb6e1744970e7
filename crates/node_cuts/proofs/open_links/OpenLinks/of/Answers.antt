use Rattle.std.proofs.{Common.false, lemmas.List.length-replicate}
use Rattle.schedule.proofs.Tabled.{unmarked}
use Rattle.node_cuts.proofs.open_links.OpenLinks.of.Goals as goal

pub loop-from-init : goal.loop-from-init
loop-from-init c = record { marks = λ link from to. unmarked link from to; whole = length-replicate 256 false }
