use Rattle.sccl_run.proofs.WrongRuns.{blamed_shelf_is_wrong, changed_file_is_wrong, other_place_is_wrong}
use Rattle.sccl_run.proofs.laws.a_refusal_that_says_or_does_more_is_wrong.Goals as goal

pub returns-clause-place : goal.returns-clause-place
returns-clause-place c = other_place_is_wrong

pub returns-clause-file : goal.returns-clause-file
returns-clause-file c = changed_file_is_wrong

pub returns-clause-shelf : goal.returns-clause-shelf
returns-clause-shelf c = blamed_shelf_is_wrong
