use Rattle.collective_spec.proofs.Copying.{copies_stand}
use Rattle.collective_spec.proofs.laws.copies_stand_where_the_pattern_does.Goals as goal

pub returns : goal.returns
returns c = copies_stand
