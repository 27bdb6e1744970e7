use Rattle.schedule.proofs.Alone.{alone_never_solves, alone_never_sums}
use Rattle.schedule.proofs.laws.nothing_is_done_without_links.Goals as goal

pub returns : goal.returns
returns c = record { brought = alone_never_solves; summed = alone_never_sums }
