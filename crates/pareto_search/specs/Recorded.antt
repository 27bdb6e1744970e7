-- What an engine's record holds after a search.
use Rattle.std.specs.Prelude.{◌++◌, map, All, Option, None, Some}
use Rattle.candidate_order.specs.{declared.candidate.Candidate.Candidate, Frontiers.{QuestionValue, FrontierValue, IsWithin, solved, given_up}}
use Rattle.engine_rules.specs.{declared.settled.Settled.TheVariants.{Solved, Refuted, Unknown}, Outcomes.RecordValue}

-- the candidates of the three lists, each with its kind
abbrev pub entries_of : FrontierValue → RecordValue
entries_of f = map (λ x. (x, Solved)) (solved f) ++ map (λ x. (x, Refuted)) f.refuted ++ map (λ x. (x, Unknown)) (given_up f)

-- the candidate at which the engine failed, if there is one, is within the limits
abbrev pub IsStoppedWithin : QuestionValue → Option Candidate → Type 0
IsStoppedWithin q None = Unit {0}
IsStoppedWithin q (Some x) = IsWithin q x

-- each candidate of the record, and the one at which the engine failed, is within the limits
pub record StaysWithin (q : QuestionValue) (entries : RecordValue) (stopped : Option Candidate) : Type 0 where
  pub settled : All (λ entry. IsWithin q entry.0) entries
  pub failed : IsStoppedWithin q stopped
