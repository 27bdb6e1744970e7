-- How assignments and schedules agree (Cai et al., PPoPP 2021, section on the encoding).
use Rattle.std.specs.Prelude.{◌≡◌, ℕ, ◌<◌, ◌≤◌, Bool, List}
use Rattle.schedule.specs.{Sends.ScheduleValue, Placed.{PlacementValue, holds}, Running.after, Solving.Tight}
use Rattle.cnf_formula.specs.{Literals.is_true, Formulas.{FormulaValue, Satisfies}}
use Rattle.send_encoding.specs.{Variables.{SendMapValue, arrival}, Sent.{arrived, sends_of}}

-- the sends that an assignment says are a tight schedule, whatever its rounds, and its run has what the arrivals say
pub record IsTightRun (m : SendMapValue) (pre : PlacementValue) (values : List Bool) : Type 0 where
  pub tight : (rounds : List ℕ) → Tight pre (record { rounds = rounds; sends = sends_of m values })
  pub arrivals : (rounds : List ℕ) (k : ℕ) → k ≤ m.steps → after pre (record { rounds = rounds; sends = sends_of m values }) k ≡ arrived m values k

-- an assignment satisfies the formula, and its arrivals are what the schedule's run has
pub record SatisfiesAs (m : SendMapValue) (pre : PlacementValue) (s : ScheduleValue) (f : FormulaValue) : Type 0 where
  pub values : List Bool
  pub satisfies : Satisfies values f
  pub arrivals : (chunk node step : ℕ) → chunk < m.chunks → node < m.nodes → step ≤ m.steps → is_true values (arrival m chunk node step) ≡ holds (after pre s step) (chunk, node)
