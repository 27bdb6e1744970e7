-- What a frontier says after a search with an engine. This project's own.
use Rattle.std.specs.Prelude.{All}
use Rattle.schedule.specs.Sends.{ScheduleValue}
use Rattle.cnf_formula.specs.Formulas.{FormulaValue}
use Rattle.proof_rules.specs.Refuting.{Exhausted}
use Rattle.candidate_order.specs.{declared.candidate.Candidate.Candidate, Frontiers.{QuestionValue, FrontierValue, RightFrontier, Searched, IsWithin}}
use Rattle.candidate_formula.specs.{Formulas.{formula_for, Suits}, Searched.{copying_schedule, searched_question}}

-- it is right and searched in order, what was refuted is within the limits, the engine's formula of what was given up is exhausted, and each schedule, as the engine found it, has what the engine promises
pub record IsFoundBy (q : QuestionValue) (formula : Candidate → FormulaValue) (suits : Candidate → ScheduleValue → Type 0) (f : FrontierValue) : Type 0 where
  pub right : RightFrontier q f
  pub searched : Searched q f
  pub within : All (IsWithin q) f.refuted
  pub exhausted : All (λ u. Exhausted (formula u.candidate) u.conflicts) f.unknown
  pub suited : All (λ p. suits p.candidate (copying_schedule q.spec p.schedule)) f.points

-- by the formula of each candidate; each schedule, as what is searched has it, is as the question asks beside solving
abbrev pub IsFound : QuestionValue → FrontierValue → Type 0
IsFound q f = IsFoundBy q (formula_for q) (Suits (searched_question q)) f
