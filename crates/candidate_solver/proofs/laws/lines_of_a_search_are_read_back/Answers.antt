use Rattle.candidate_solver.proofs.Readable.{search_says}
use Rattle.candidate_solver.proofs.laws.lines_of_a_search_are_read_back.Goals as goal

pub returns : goal.returns
returns c = search_says
