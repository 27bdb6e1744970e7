-- What an engine's outcomes say of a question, and its record of them.
use Rattle.std.specs.Prelude.{◌≡◌, ℕ, true, List, [], Contains}
use Rattle.schedule.specs.{Solving.Tight, Sends.ScheduleValue}
use Rattle.cnf_formula.specs.{Formulas.FormulaValue, Lines.ProofLineValue}
use Rattle.proof_rules.specs.{declared.verdict.LineVerdict.TheVariants.Accepted, Judging.verdict_of, Refuting.SpentLog}
use Rattle.ledger_rules.specs.Logs.{checker_of}
use Rattle.candidate_order.specs.{declared.{candidate.Candidate.Candidate, outcome.Outcome.Outcome}, Frontiers.{QuestionValue, IsSolvedBy, instance_for}}
use Rattle.candidate_order.specs.declared.outcome.Outcome.TheVariants as outcome
use Rattle.engine_rules.specs.declared.settled.Settled.{Settled}
use Rattle.engine_rules.specs.declared.settled.Settled.TheVariants as settled

abbrev pub kind_of : Outcome → Settled
kind_of (outcome.Solved schedule) = settled.Solved
kind_of outcome.Refuted = settled.Refuted
kind_of (outcome.Unknown conflicts) = settled.Unknown

-- the candidates that were settled, in order, each with the kind of its outcome
abbrev pub RecordValue : Type 0
RecordValue = List (Candidate × Settled)

-- the candidate is not in the record
abbrev pub IsNew : RecordValue → Candidate → Type 0
IsNew entries x = (kind : Settled) → Contains entries (x, kind) → ⊥

-- the schedule solves the candidate, and wastes no send
pub record SolvesTightly (q : QuestionValue) (x : Candidate) (s : ScheduleValue) : Type 0 where
  pub solves : IsSolvedBy q x s
  pub tight : Tight (instance_for q x).pre s

-- so many lines were spent on the formula, and no line without a literal follows from what is held behind them
pub record SpentOn (f : FormulaValue) (lines : List ProofLineValue) (n : ℕ) : Type 0 where
  pub spent : SpentLog lines f n
  pub not_closed : (line : ProofLineValue) → line.lits ≡ [] → verdict_of (checker_of f lines) line ≡ Accepted true → ⊥
