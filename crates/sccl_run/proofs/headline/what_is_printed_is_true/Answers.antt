use Rattle.sccl_run.proofs.Printed.{synth_is_true, verified_is_true}
use Rattle.sccl_run.proofs.headline.what_is_printed_is_true.Goals as goal

pub returns-clause-synth : goal.returns-clause-synth
returns-clause-synth c = synth_is_true

pub returns-clause-check : goal.returns-clause-check
returns-clause-check c = verified_is_true
