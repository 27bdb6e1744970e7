-- The clauses of one node and one chunk, part by part.
use Rattle.std.specs.Prelude.{ℕ, ◌-◌, if◌then◌else◌, List, [], ◌∷◌, map, flat_map}
use Rattle.schedule.specs.Placed.{PlacementValue, holds}
use Rattle.cnf_formula.specs.Literals.{LitValue, negation}
use Rattle.cardinality.specs.Counting.{at_most_one_of}
use Rattle.send_encoding.specs.{Variables.{SendMapValue, steps_of, arrival}, Sending.sends_into}

-- at the start it has what it has before
abbrev pub node_starts : SendMapValue → PlacementValue → ℕ × ℕ → List (List LitValue)
node_starts m pre (c, n) = ((if holds pre (c, n) then arrival m c n 0 else negation (arrival m c n 0)) ∷ []) ∷ []

-- it keeps what it has
abbrev pub node_keeps : SendMapValue → ℕ × ℕ → List (List LitValue)
node_keeps m (c, n) = map (λ s. negation (arrival m c n (s - 1)) ∷ arrival m c n s ∷ []) (steps_of m)

-- at the end it has what it has after
abbrev pub node_ends : SendMapValue → PlacementValue → ℕ × ℕ → List (List LitValue)
node_ends m post (c, n) = if holds post (c, n) then (arrival m c n m.steps ∷ []) ∷ [] else []

-- where it has the chunk it had it before the step, or was sent it
abbrev pub node_arrives : SendMapValue → ℕ × ℕ → List (List LitValue)
node_arrives m (c, n) = map (λ s. arrival m c n (s - 1) ∷ negation (arrival m c n s) ∷ sends_into m c n s) (steps_of m)

-- it is sent the chunk once
abbrev pub node_once : SendMapValue → ℕ × ℕ → List (List LitValue)
node_once m (c, n) = flat_map (λ s. at_most_one_of (sends_into m c n s)) (steps_of m)
