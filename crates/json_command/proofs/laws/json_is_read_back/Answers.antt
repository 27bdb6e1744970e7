use Rattle.json_command.proofs.ComesBack.{comes_back, due_back}
use Rattle.json_command.proofs.laws.json_is_read_back.Goals as goal

pub returns-clause-asked : goal.returns-clause-asked
returns-clause-asked c = λ value bytes text. comes_back bytes text value

pub returns-clause-due : goal.returns-clause-due
returns-clause-due c = due_back
