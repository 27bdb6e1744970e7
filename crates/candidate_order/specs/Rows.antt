-- Small questions, whose answers are known.
use Rattle.std.specs.Prelude.{ℕ, [], ◌∷◌}
use Rattle.schedule.specs.{Links.TopologyValue, Sends.ScheduleValue, Placed.PlacementValue}
use Rattle.collective_spec.specs.declared.{kind.Kind.Kind, spec.Spec.TheVariants.{Standard, Custom}}
use Rattle.candidate_order.specs.{declared.{candidate.Candidate.Candidate, mark.Mark.TheVariants.Optimal}, Ranges.{LimitsValue, unpruned}, Frontiers.{QuestionValue, FrontierValue}}

-- no extra rounds, one step, one chunk, a thousand conflicts
abbrev pub smallest_limits : LimitsValue
smallest_limits = record { k = 0; max_s = 1; max_c = 1; conflicts = 1000; pruning = unpruned }

-- a candidate by its steps, rounds and chunks
abbrev pub at : ℕ → ℕ → ℕ → Candidate
at s r c = record { s = s; r = r; c = c }

-- one step of one round for one chunk, the only candidate within these limits
abbrev pub smallest : Candidate
smallest = record { s = 1; r = 1; c = 1 }

-- the question within these limits, with node 0 as the root where there is one
abbrev pub asked : TopologyValue → Kind → QuestionValue
asked t kind = record { topology = t; spec = Standard (record { kind = kind; root = 0 }); limits = smallest_limits }

-- the question of a chunk that is to go from node 0 to node 1
abbrev pub asked_to_move : TopologyValue → QuestionValue
asked_to_move t =
    let held : ℕ → PlacementValue = λ node. record { chunks = 1; nodes = t.nodes; pairs = (0, node) ∷ [] } in
    record { topology = t; spec = Custom (record { base = 1; before = held 0; after = held 1 }); limits = smallest_limits }

-- the one candidate is an optimal point with this schedule
abbrev pub solved_by : ScheduleValue → FrontierValue
solved_by s = record { points = record { candidate = smallest; schedule = s; mark = Optimal } ∷ []; refuted = []; unknown = [] }

-- the one candidate is refuted
abbrev pub all_refuted : FrontierValue
all_refuted = record { points = []; refuted = smallest ∷ []; unknown = [] }
