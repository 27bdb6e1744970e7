-- Schedules that add up: when each demanded chunk ends with one contribution of each node (Cai et al., PPoPP 2021, collectives that combine chunks; the counts are this project's own).
use Rattle.std.specs.Prelude.{◌≡◌, ◌==◌, ◌&&◌, ℕ, zero, suc, ◌+◌, Bool, List, length, map, filter, fold, sum, All}
use Rattle.schedule.specs.{declared.hop.Hop.Hop, Links.TopologyValue, Sends.{ScheduleValue, IsSchedule, IsInRange}, Placed.{PlacementValue, same_pair}, Fitting.Fits, Bags.{Bag, Bags, added, contributions, one_of_each}}

-- the send is one of this step, and goes to this chunk at this node
abbrev pub goes_to : ℕ → ℕ × ℕ → Hop → Bool
goes_to step pair h = h.step == step && same_pair (h.chunk, h.to) pair

-- the bags before the step of all that send the chunk to the node
abbrev pub arriving : List Hop → Bags → ℕ → ℕ × ℕ → List Bag
arriving sends before step pair = map (λ h. before (h.chunk, h.from)) (filter (goes_to step pair) sends)

-- a step adds to each bag those that arrive
abbrev pub summed_step : List Hop → Bags → ℕ → Bags
summed_step sends before step pair = fold added (before pair) (arriving sends before step pair)

-- the bags after so many steps
abbrev pub bags_after : Bags → List Hop → ℕ → Bags
bags_after start sends zero = start
bags_after start sends (suc n) = summed_step sends (bags_after start sends n) (n + 1)

-- so many steps and rounds, within the bandwidth, and every pair that is demanded ends with each node exactly once
pub record Sums (t : TopologyValue) (demand : PlacementValue) (s : ScheduleValue) (steps rounds : ℕ) : Type 0 where
  pub steps_are : length s.rounds ≡ steps
  pub rounds_are : sum s.rounds ≡ rounds
  pub fits : Fits t s
  pub sums : All (λ pair. bags_after (contributions t.nodes) s.sends (length s.rounds) pair ≡ one_of_each t.nodes) demand.pairs

-- some schedule does
pub record SummedSolvable (t : TopologyValue) (demand : PlacementValue) (steps rounds : ℕ) : Type 0 where
  pub schedule : ScheduleValue
  pub valid : IsSchedule schedule
  pub in_range : IsInRange demand.chunks demand.nodes schedule
  pub sums : Sums t demand schedule steps rounds
