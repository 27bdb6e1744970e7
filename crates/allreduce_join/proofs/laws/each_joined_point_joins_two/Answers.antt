use Rattle.allreduce_join.proofs.Paired.{joined_of_two}
use Rattle.allreduce_join.proofs.laws.each_joined_point_joins_two.Goals as goal

pub returns : goal.returns
returns c = joined_of_two
