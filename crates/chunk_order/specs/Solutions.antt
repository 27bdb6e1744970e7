-- Schedules that solve a candidate, waste no send and are ordered, and what encodes a candidate. This project's own.
use Rattle.std.specs.Prelude.{ℕ}
use Rattle.schedule.specs.{Links.TopologyValue, Placed.PlacementValue, Sends.ScheduleValue}
use Rattle.round_encoding.specs.{declared.encoding.Encoding.Encoding, Candidates.{IsEncodingOf, IsTightSolution}}
use Rattle.chunk_order.specs.Alike.{Ordered}

-- the schedule is one
pub record IsOrderedSolution (t : TopologyValue) (pre post : PlacementValue) (s : ScheduleValue) (steps rounds : ℕ) : Type 0 where
  pub solution : IsTightSolution t pre post s steps rounds
  pub ordered : Ordered pre post s

-- some schedule is one
pub record HasOrderedSolution (t : TopologyValue) (pre post : PlacementValue) (steps rounds : ℕ) : Type 0 where
  pub schedule : ScheduleValue
  pub is : IsOrderedSolution t pre post schedule steps rounds

-- ---- what encodes a candidate of an instance

-- the encoding is that of a candidate of the instance
pub record IsEncodingFor (pre post : PlacementValue) (e : Encoding) : Type 0 where
  pub topology : TopologyValue
  pub steps : ℕ
  pub rounds : ℕ
  pub encodes : IsEncodingOf topology pre post steps rounds e
