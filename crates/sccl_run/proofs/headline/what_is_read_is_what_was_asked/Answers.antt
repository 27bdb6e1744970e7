use Rattle.sccl_run.proofs.Printed.{right_read, topology_read, words_read}
use Rattle.sccl_run.proofs.headline.what_is_read_is_what_was_asked.Goals as goal

pub returns-clause-words : goal.returns-clause-words
returns-clause-words c = words_read

pub returns-clause-topology : goal.returns-clause-topology
returns-clause-topology c = topology_read

pub returns-clause-right : goal.returns-clause-right
returns-clause-right c = right_read
