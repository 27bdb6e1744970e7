use Rattle.cut_bounds.proofs.Summed.{sums_bring}
use Rattle.cut_bounds.proofs.laws.sums_bring_in_what_is_needed.Goals as goal

pub returns : goal.returns
returns c = sums_bring
