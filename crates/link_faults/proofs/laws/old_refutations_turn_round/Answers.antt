use Rattle.link_faults.proofs.Reversed.{old_turned}
use Rattle.link_faults.proofs.laws.old_refutations_turn_round.Goals as goal

pub returns : goal.returns
returns c = old_turned
