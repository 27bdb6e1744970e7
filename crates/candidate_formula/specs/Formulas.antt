-- The formula of a candidate of a question, and what the question asks of schedules.
use Rattle.std.specs.Prelude.{IsTrue, if◌then◌else◌}
use Rattle.schedule.specs.{Links.{TopologyValue, reversed_of}, Sends.ScheduleValue}
use Rattle.collective_spec.specs.{declared.spec.Spec.Spec, Collectives.{spec_instance, adds_up}}
use Rattle.candidate_order.specs.{declared.candidate.Candidate.Candidate, Frontiers.{QuestionValue, IsSolvedBy, instance_for}}
use Rattle.cnf_formula.specs.Formulas.{FormulaValue}
use Rattle.round_encoding.specs.Rounding.{formula_of}
use Rattle.chunk_order.specs.{Alike.Ordered, Ordering.ordered_formula_of}

-- the links turned round for a reduction, and else the links as they are
abbrev pub searched_links : TopologyValue → Spec → TopologyValue
searched_links t spec = if adds_up spec then reversed_of t else t

-- a reduction is sought as the copying collective of which it is the inverse, over the links turned round
abbrev pub searched_on : QuestionValue → TopologyValue
searched_on q = searched_links q.topology q.spec

-- the formula of every schedule
abbrev pub plain_formula_for : QuestionValue → Candidate → FormulaValue
plain_formula_for q x = let i = spec_instance q.spec q.topology.nodes x.c in formula_of (searched_on q) i.pre i.post x.s x.r

-- the formula with the clauses of the order, which is that of the ordered schedules
abbrev pub ordered_formula_for : QuestionValue → Candidate → FormulaValue
ordered_formula_for q x = let i = spec_instance q.spec q.topology.nodes x.c in ordered_formula_of (searched_on q) i.pre i.post x.s x.r

-- the clauses of the order stand in it where the question has only ordered schedules sought
abbrev pub formula_for : QuestionValue → Candidate → FormulaValue
formula_for q x = if q.limits.pruning.ordered then ordered_formula_for q x else plain_formula_for q x

-- the schedule is ordered for the candidate's instance
abbrev pub OrderedFor : QuestionValue → Candidate → ScheduleValue → Type 0
OrderedFor q x s = Ordered (instance_for q x).pre (instance_for q x).post s

-- what the question asks of schedules beside solving: where only ordered ones are sought, that they are
abbrev pub Suits : QuestionValue → Candidate → ScheduleValue → Type 0
Suits q x s = IsTrue q.limits.pruning.ordered → OrderedFor q x s

-- some schedule that solves the candidate has it
pub record HasSuited (q : QuestionValue) (x : Candidate) : Type 0 where
  pub schedule : ScheduleValue
  pub solves : IsSolvedBy q x schedule
  pub suits : Suits q x schedule
