use Rattle.candidate_solver.proofs.Tried.{says_solved}
use Rattle.candidate_solver.proofs.attempt.outcome_of.Goals as goal

pub returns-in_ok-schedule-in-Model : goal.returns-in_ok-schedule-in-Model
returns-in_ok-schedule-in-Model c =
    says_solved c.args.encoding.now c.args.answer c.args.conflicts _ c.in_ok-schedule-in-Model.schedule c.in-Model.is c.in_ok-schedule-in-Model.ensures.schedule c.in_ok-schedule-in-Model.ensures.solves
