use Rattle.link_faults.proofs.Reversed.{narrowed_turned, copied_narrowed, as_many_groups, group_turned}
use Rattle.link_faults.proofs.laws.a_fault_turns_round.Goals as goal

pub returns : goal.returns
returns c = record { topology = narrowed_turned; question = copied_narrowed; groups = as_many_groups; group = group_turned }
