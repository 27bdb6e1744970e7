-- Bandwidth (Cai et al., PPoPP 2021, section on bandwidth constraints).
use Rattle.std.specs.Prelude.{◌≡◌, ◌==◌, ◌&&◌, ℕ, ◌-◌, ◌*◌, ◌<◌, ◌≤◌, true, List, length, All, slice_index_or, count_by}
use Rattle.schedule.specs.{declared.hop.Hop.Hop, Links.{GroupValue, TopologyValue, has_link, is_usable}, Sends.{ScheduleValue, link_of}}

-- how many sends of the step have their link in the group
abbrev pub load : GroupValue → ℕ → List Hop → ℕ
load group step sends = count_by (λ h. h.step == step && has_link group (link_of h)) sends

-- the rounds of a step, steps being numbered from 1
abbrev pub rounds_at : ScheduleValue → ℕ → ℕ
rounds_at s step = slice_index_or s.rounds (step - 1) 0

-- each send uses a usable link, and in a step each group carries at most its width times the rounds of the step
pub record Fits (t : TopologyValue) (s : ScheduleValue) : Type 0 where
  pub usable : All (λ h. is_usable t (link_of h) ≡ true) s.sends
  pub within : (step : ℕ) → 0 < step → step ≤ length s.rounds → All (λ group. load group step s.sends ≤ group.width * rounds_at s step) t.groups
