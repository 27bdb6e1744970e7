-- What an engine keeps of the candidates that it was asked to settle.
use Rattle.std.specs.Prelude.{ℕ, Option}
use Rattle.candidate_order.specs.declared.candidate.Candidate.{Candidate}
use Rattle.engine_rules.specs.Outcomes.{RecordValue}

-- the candidates that were settled, the one at which the engine failed, and for how many more there is room
pub record RecordState : Type 0 where
  pub entries : RecordValue
  pub stopped : Option Candidate
  pub room : ℕ
