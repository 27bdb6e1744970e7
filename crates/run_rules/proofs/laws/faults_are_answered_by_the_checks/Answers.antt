use Rattle.run_rules.{specs.Degraded.IsNewSearch, proofs.Denied.{denied_of, done_of, right_of}}
use Rattle.run_rules.proofs.laws.faults_are_answered_by_the_checks.Goals as goal

pub returns-clause-denied : goal.returns-clause-denied
returns-clause-denied c = λ r group width. denied_of r (IsNewSearch r group width)

pub returns-clause-done : goal.returns-clause-done
returns-clause-done c = λ r group width files status text answer e. (right_of r (IsNewSearch r group width) files status text answer e, done_of r (IsNewSearch r group width) files status text answer e)
