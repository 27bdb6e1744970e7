-- The programs of the nodes of a schedule (this project's own).
use Rattle.std.specs.{Prelude.{◌==◌, ◌&&◌, ℕ, List, ◌++◌, length, map, filter}, List.{flat_map, range_with_len}}
use Rattle.schedule.specs.{declared.hop.Hop.Hop, Sends.ScheduleValue}
use Rattle.bag_runs.specs.Stores.{mode_at}
use Rattle.node_programs.specs.declared.op.Op.{Op, TheVariants.{Send, Take}}

-- in a step a node first sends, by chunk and receiver, and then takes, by chunk and sender: the order of the schedule's sends
abbrev pub ops_at : List Hop → ℕ → ℕ → ℕ → List Op
ops_at sends adding node step =
    map (λ h. Send h.chunk h.to h.step) (filter (λ h. h.step == step && h.from == node) sends)
    ++ map (λ h. Take h.chunk h.from h.step (mode_at adding h.step)) (filter (λ h. h.step == step && h.to == node) sends)

-- a node's operations, step by step
abbrev pub program_of : ScheduleValue → ℕ → ℕ → List Op
program_of s adding node = flat_map (ops_at s.sends adding node) (range_with_len 1 (length s.rounds))

-- the program of each node
abbrev pub programs_of : ℕ → ScheduleValue → ℕ → List (List Op)
programs_of nodes s adding = map (program_of s adding) (range_with_len 0 nodes)
