use Rattle.std.proofs.Common.{arith}
use Rattle.link_faults.proofs.Sound.{narrowed_with}
use Rattle.link_faults.proofs.narrowing.narrow.Goals as goal

pub new-requires : goal.new-requires
new-requires c = grind (arith, narrowed_with)
