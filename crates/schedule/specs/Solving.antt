-- When a schedule solves an instance (Cai et al., PPoPP 2021, section on the synthesis problem).
use Rattle.std.specs.Prelude.{◌≡◌, ◌&&◌, ℕ, ◌-◌, Bool, true, false, not, length, sum, All, AllPairs}
use Rattle.schedule.specs.{declared.hop.Hop.Hop, Links.TopologyValue, Sends.{ScheduleValue, IsSchedule, IsInRange}, Placed.{PlacementValue, holds, same_pair}, Running.after, Fitting.Fits}

-- so many steps and rounds, within the bandwidth, and every pair that is demanded is held at the end
pub record Solves (t : TopologyValue) (pre post : PlacementValue) (s : ScheduleValue) (steps rounds : ℕ) : Type 0 where
  pub steps_are : length s.rounds ≡ steps
  pub rounds_are : sum s.rounds ≡ rounds
  pub fits : Fits t s
  pub delivers : All (λ pair. holds (after pre s (length s.rounds)) pair ≡ true) post.pairs

-- some schedule does; it may have idle, doubled and useless sends
pub record Solvable (t : TopologyValue) (pre post : PlacementValue) (steps rounds : ℕ) : Type 0 where
  pub schedule : ScheduleValue
  pub valid : IsSchedule schedule
  pub in_range : IsInRange pre.chunks pre.nodes schedule
  pub solves : Solves t pre post schedule steps rounds

-- the sender holds the chunk, and the receiver lacks it
abbrev pub moves : PlacementValue → Hop → Bool
moves before h = holds before (h.chunk, h.from) && not (holds before (h.chunk, h.to))

-- no send is wasted: each sender holds the chunk before its step, each receiver lacks it, and receives it once
pub record Tight (pre : PlacementValue) (s : ScheduleValue) : Type 0 where
  pub sender : All (λ h. holds (after pre s (h.step - 1)) (h.chunk, h.from) ≡ true) s.sends
  pub receiver : All (λ h. holds (after pre s (h.step - 1)) (h.chunk, h.to) ≡ false) s.sends
  pub once : AllPairs (λ a b. same_pair (a.chunk, a.to) (b.chunk, b.to) ≡ false) s.sends
