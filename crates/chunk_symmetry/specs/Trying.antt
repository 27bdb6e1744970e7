-- What comes of one try at a candidate by its formula with the clauses of the order.
use Rattle.std.specs.Prelude.{◌≡◌, List}
use Rattle.schedule.specs.Sends.{ScheduleValue}
use Rattle.cnf_formula.specs.Lines.{ProofLineValue}
use Rattle.candidate_order.specs.{declared.{candidate.Candidate.Candidate, outcome.Outcome.Outcome}, Frontiers.QuestionValue}
use Rattle.candidate_order.specs.declared.outcome.Outcome.TheVariants as outcome
use Rattle.candidate_solver.specs.Trying.{IsOutcome}
use Rattle.candidate_formula.specs.Formulas.{ordered_formula_for, OrderedFor}

-- the lines of a search prove the outcome of the candidate, and a schedule that was found is ordered
pub record IsOrderedOutcome (q : QuestionValue) (x : Candidate) (lines : List ProofLineValue) (said : Outcome) : Type 0 where
  pub proves : IsOutcome q x (ordered_formula_for q x) lines said
  pub ordered : (schedule : ScheduleValue) → said ≡ outcome.Solved schedule → OrderedFor q x schedule
