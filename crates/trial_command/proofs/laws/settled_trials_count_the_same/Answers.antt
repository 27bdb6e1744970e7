use Rattle.trial_command.proofs.Counted.{same_trials}
use Rattle.trial_command.proofs.laws.settled_trials_count_the_same.Goals as goal

pub returns : goal.returns
returns c = record {
  points = λ n a b first second none_first none_second. (same_trials n a b first second none_first none_second).0;
  refuted = λ n a b first second none_first none_second. (same_trials n a b first second none_first none_second).1;
}
