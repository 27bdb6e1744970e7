use Rattle.sccl_run.proofs.FamilyRuns.{left_out_is_wrong, no_part_is_wrong, other_text_is_wrong}
use Rattle.sccl_run.proofs.laws.a_family_that_is_left_out_is_wrong.Goals as goal

pub returns-clause-nothing : goal.returns-clause-nothing
returns-clause-nothing c = left_out_is_wrong

pub returns-clause-other : goal.returns-clause-other
returns-clause-other c = other_text_is_wrong

pub returns-clause-no_part : goal.returns-clause-no_part
returns-clause-no_part c = no_part_is_wrong
