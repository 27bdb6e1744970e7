use Rattle.cut_bounds.proofs.Turned.{cut_same, floor_same, table_same}
use Rattle.cut_bounds.proofs.laws.a_reduction_has_the_cuts_of_its_copy.Goals as goal

pub returns : goal.returns
returns c = record { cut = cut_same; floor = floor_same; table = table_same }
