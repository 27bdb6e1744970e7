use Rattle.std.{proofs.Common.refl, specs.Fmt.digits}
use Rattle.run_rules.specs.Trials.{trial_text}
use Rattle.trial_command.proofs.vectors.trials.Goals as goal

pub returns-clause-first : goal.returns-clause-first
unfolding trial_text digits
returns-clause-first c = refl
