-- What an engine over another keeps of the candidates that old ones carry. This project's own.
use Rattle.std.{specs.Prelude.{◌≡◌, true, List, Option, Some, Contains}, proofs.Common.subst}
use Rattle.schedule.specs.Links.{TopologyValue}
use Rattle.candidate_order.specs.{declared.candidate.Candidate.Candidate, Frontiers.{QuestionValue, IsSolvable}}
use Rattle.engine_rules.specs.{declared.settled.Settled.Settled, Outcomes.RecordValue}
use Rattle.engine_rules.specs.declared.settled.Settled.TheVariants as settled
use Rattle.link_faults.specs.Carrying.{is_carried}

-- the question over other links
abbrev pub question_over : TopologyValue → QuestionValue → QuestionValue
question_over t q = record { topology = t; spec = q.spec; limits = q.limits }

-- no candidate that an old one carries is solvable
abbrev pub HasNoneCarried : List Candidate → QuestionValue → Type 0
HasNoneCarried old q = (x : Candidate) → is_carried old x ≡ true → IsSolvable q x → ⊥

-- what an old one carries is recorded as refuted
abbrev pub RefutesCarried : List Candidate → RecordValue → Type 0
RefutesCarried old entries = (x : Candidate) (kind : Settled) → Contains entries (x, kind) → is_carried old x ≡ true → kind ≡ settled.Refuted

-- where the one within has stopped at a candidate, so has this one
abbrev pub StopsAlike : Option Candidate → Option Candidate → Type 0
StopsAlike within own = (x : Candidate) → within ≡ Some x → own ≡ Some x

-- unknown is not refuted
abbrev is_unknown : Settled → Type 0
is_unknown settled.Unknown = Unit {0}
is_unknown settled.Solved = ⊥
is_unknown settled.Refuted = ⊥

pub unknown_not_refuted : {A : Type 0} → settled.Unknown ≡ settled.Refuted → A
unknown_not_refuted same = absurd (subst is_unknown same tt)
