use Rattle.sccl_run.proofs.FamilyRuns.{shelf_is_wrong, source_is_wrong}
use Rattle.sccl_run.proofs.laws.a_family_that_blames_another_port_is_wrong.Goals as goal

pub returns-clause-source : goal.returns-clause-source
returns-clause-source c = source_is_wrong

pub returns-clause-shelf : goal.returns-clause-shelf
returns-clause-shelf c = shelf_is_wrong
