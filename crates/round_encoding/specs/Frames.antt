-- The variables of extra rounds, which follow those of arrivals and sends (Cai et al., PPoPP 2021, section on the encoding; the numbers are this project's own).
use Rattle.std.specs.Prelude.{ℕ, ◌+◌, ◌-◌, ◌*◌}
use Rattle.schedule.specs.{Links.TopologyValue, Placed.PlacementValue}
use Rattle.cnf_formula.specs.Literals.{LitValue, yes}
use Rattle.send_encoding.specs.Variables.{SendMapValue, map_of, arrivals, sends}

-- a map, and how many more rounds than steps there are
pub record Frame : Type 0 where
  pub map : SendMapValue
  pub extra : ℕ

abbrev pub frame_of : TopologyValue → PlacementValue → ℕ → ℕ → Frame
frame_of t pre steps rounds = record { map = map_of t pre steps; extra = rounds - steps }

-- the step has at least so many extra rounds, which are numbered from 1
abbrev pub extra_round : Frame → ℕ → ℕ → LitValue
extra_round f step j = yes (arrivals f.map + sends f.map + 1 + (step - 1) * f.extra + (j - 1))

-- how many variables these are; those of the counters follow
abbrev pub own_variables : Frame → ℕ
own_variables f = arrivals f.map + sends f.map + f.map.steps * f.extra
