-- The run of a schedule: what is held after each step (Cai et al., PPoPP 2021, section on algorithms).
use Rattle.std.specs.{Prelude.{◌==◌, ◌&&◌, ◌||◌, ℕ, zero, suc, ◌+◌, Bool, List, length, map}, List.{list_any, range_with_len}}
use Rattle.schedule.specs.{declared.hop.Hop.Hop, Sends.ScheduleValue, Placed.{PlacementValue, holds, placed, same_pair}}

-- the send is one of this step, from a node that holds the chunk before the step, and brings this pair
abbrev pub brings : PlacementValue → ℕ → ℕ × ℕ → Hop → Bool
brings before step pair h = h.step == step && (same_pair (h.chunk, h.to) pair && holds before (h.chunk, h.from))

-- a step joins the pairs before it with those that its sends bring
abbrev pub step_of : List Hop → PlacementValue → ℕ → PlacementValue
step_of sends before step = placed before.chunks before.nodes (λ pair. holds before pair || list_any (brings before step pair) sends)

-- what is held after so many steps
abbrev pub after : PlacementValue → ScheduleValue → ℕ → PlacementValue
after pre s zero = pre
after pre s (suc n) = step_of s.sends (after pre s n) (n + 1)

-- what is held after step 0, 1 and so on to the last
abbrev pub run_of : PlacementValue → ScheduleValue → List PlacementValue
run_of pre s = map (after pre s) (range_with_len 0 (length s.rounds + 1))
