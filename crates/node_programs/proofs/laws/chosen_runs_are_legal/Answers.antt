use Rattle.node_programs.proofs.Ends.{chosen_ends}
use Rattle.node_programs.proofs.laws.chosen_runs_are_legal.Goals as goal

pub returns : goal.returns
returns c = λ s seed. (chosen_ends s seed).legal
