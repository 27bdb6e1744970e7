use Rattle.trial_command.proofs.trial.tried_out.Goals as goal

pub verify-requires-clause-shelf : goal.verify-requires-clause-shelf
verify-requires-clause-shelf c = rw c.in_ok-report.ensures c.requires.shelf
