-- What an assignment says of arrivals and sends (Cai et al., PPoPP 2021, section on the encoding).
use Rattle.std.specs.{Prelude.{ℕ, Bool, if◌then◌else◌, List, [], ◌∷◌, flat_map}, List.{range_with_len, enumerate_from}}
use Rattle.schedule.specs.{declared.hop.Hop.Hop, Placed.{PlacementValue, placed}}
use Rattle.cnf_formula.specs.Literals.{is_true}
use Rattle.send_encoding.specs.Variables.{SendMapValue, steps_of, arrival, sent}

-- what is held after a step, by the arrivals
abbrev pub arrived : SendMapValue → List Bool → ℕ → PlacementValue
arrived m values s = placed m.chunks m.nodes (λ (c, n). is_true values (arrival m c n s))

-- the send of the chunk over the link at the step, where it is true
abbrev pub hop_over : SendMapValue → List Bool → ℕ → ℕ → ℕ × (ℕ × ℕ) → List Hop
hop_over m values s c (e, link) = if is_true values (sent m c e s) then record { chunk = c; from = link.0; to = link.1; step = s } ∷ [] else []

-- the sends that are true, by step, chunk and link
abbrev pub sends_of : SendMapValue → List Bool → List Hop
sends_of m values = flat_map (λ s. flat_map (λ c. flat_map (λ (e, link).
    if is_true values (sent m c e s) then record { chunk = c; from = link.0; to = link.1; step = s } ∷ [] else []) (enumerate_from 0 m.links)) (range_with_len 0 m.chunks)) (steps_of m)
