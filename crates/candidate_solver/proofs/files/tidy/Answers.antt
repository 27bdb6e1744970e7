use Rattle.candidate_formula.proofs.BegunFiles.{begun_trans}
use Rattle.candidate_solver.proofs.files.tidy.Goals as goal

pub returns-in_ok-empty-in-Solved-clause-begins : goal.returns-in_ok-empty-in-Solved-clause-begins
returns-in_ok-empty-in-Solved-clause-begins g c = λ t f. begun_trans (c.empty.ensures.begins (c.empty-in-Solved.ensures.told t) f) (c.empty-in-Solved.ensures.begins t f)
