use Rattle.std.proofs.Common.{refl}
use Rattle.trial_command.proofs.trial.trial_answer.Goals as goal

pub returns : goal.returns
returns c = λ files stay. (c.in_ok-text.ensures, record { says = record { status = refl; text = refl }; stay = stay })
