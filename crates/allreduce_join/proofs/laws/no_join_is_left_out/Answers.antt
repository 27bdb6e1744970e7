use Rattle.allreduce_join.proofs.Paired.{each_join_stands}
use Rattle.allreduce_join.proofs.laws.no_join_is_left_out.Goals as goal

pub returns : goal.returns
returns c = each_join_stands
