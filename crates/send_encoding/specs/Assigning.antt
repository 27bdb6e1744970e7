-- An assignment made of a value for each arrival and each send.
use Rattle.std.specs.{Prelude.{ℕ, ◌+◌, Bool, List, ◌++◌, map, length, flat_map, nat_le}, List.range_with_len}
use Rattle.schedule.specs.{Sends.ScheduleValue, Fitting.rounds_at}
use Rattle.send_encoding.specs.Variables.{SendMapValue}

-- a value for each of so many layers, rows and places; places are numbered from a number on
abbrev pub cube : {X : Type 0} → (ℕ → ℕ → ℕ → X) → ℕ → ℕ → ℕ → ℕ → List X
cube f layers rows from places = flat_map (λ c. flat_map (λ n. map (f c n) (range_with_len from places)) (range_with_len 0 rows)) (range_with_len 0 layers)

abbrev pub arrival_values : SendMapValue → (ℕ → ℕ → ℕ → Bool) → List Bool
arrival_values m a = cube a m.chunks m.nodes 0 (m.steps + 1)

abbrev pub send_values : SendMapValue → (ℕ → ℕ → ℕ → Bool) → List Bool
send_values m x = cube x m.chunks (length m.links) 1 m.steps

abbrev pub assigned : SendMapValue → (ℕ → ℕ → ℕ → Bool) → (ℕ → ℕ → ℕ → Bool) → List Bool → List Bool
assigned m a x rest = arrival_values m a ++ send_values m x ++ rest

-- a value for each extra round of each step
abbrev pub extra_values : ℕ → ℕ → (ℕ → ℕ → Bool) → List Bool
extra_values steps extra q = flat_map (λ k. map (q k) (range_with_len 1 extra)) (range_with_len 1 steps)

-- the step has more rounds than so many
abbrev pub has_more_rounds : ScheduleValue → ℕ → ℕ → Bool
has_more_rounds s k j = nat_le (j + 1) (rounds_at s k)
