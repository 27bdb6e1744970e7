use Rattle.run_rules.specs.declared.status.Status.TheVariants.{OutOfMemory, ShelfFailed, SinkFailed}
use Rattle.sccl_run.proofs.WrongRuns.{lost_is_wrong, unread_is_wrong}
use Rattle.sccl_run.proofs.laws.a_search_that_loses_files_is_wrong.Goals as goal

pub returns-clause-source : goal.returns-clause-source
returns-clause-source c = unread_is_wrong

pub returns-clause-shelf : goal.returns-clause-shelf
returns-clause-shelf c = lost_is_wrong ShelfFailed

pub returns-clause-sink : goal.returns-clause-sink
returns-clause-sink c = lost_is_wrong SinkFailed

pub returns-clause-memory : goal.returns-clause-memory
returns-clause-memory c = lost_is_wrong OutOfMemory
