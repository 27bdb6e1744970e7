use Rattle.std.proofs.Common.{refl}
use Rattle.frontier_audit.proofs.Proved.{proves_right}
use Rattle.trial_command.proofs.Searchable.{trial_asked}
use Rattle.trial_command.proofs.trial.search_trial.Goals as goal

pub search_report-requires : goal.search_report-requires
search_report-requires c = rw (c.trial_words.ensures, c.in_ok-topology.ensures) (trial_asked c.args.n)

pub returns-in-Ok-clause-shelf : goal.returns-in-Ok-clause-shelf
returns-in-Ok-clause-shelf c = proves_right _ _ _ (c.in-Ok.ensures.proves refl)
