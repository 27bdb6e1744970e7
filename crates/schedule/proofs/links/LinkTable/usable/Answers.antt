use Rattle.schedule.proofs.Tabled.{unmarked}
use Rattle.schedule.proofs.links.LinkTable.usable.Goals as goal

pub loop-group-init : goal.loop-group-init
loop-group-init c = λ link from to. unmarked link from to
