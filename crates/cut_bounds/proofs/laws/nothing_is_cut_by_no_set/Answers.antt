use Rattle.cut_bounds.proofs.Noting.{all_left}
use Rattle.cut_bounds.proofs.laws.nothing_is_cut_by_no_set.Goals as goal

pub returns-clause-left : goal.returns-clause-left
returns-clause-left c = all_left
