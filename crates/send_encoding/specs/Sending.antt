-- What is held and sent (Cai et al., PPoPP 2021, section on the encoding).
use Rattle.std.specs.{Prelude.{ℕ, ◌-◌, if◌then◌else◌, List, [], ◌∷◌, ◌++◌, map, filter, flat_map}, List.{range_with_len, enumerate_from}}
use Rattle.schedule.specs.Placed.{all_pairs, PlacementValue, holds}
use Rattle.cnf_formula.specs.Literals.{LitValue, negation}
use Rattle.cardinality.specs.Counting.{at_most_one_of}
use Rattle.send_encoding.specs.Variables.{SendMapValue, steps_of, links_into, arrival, sent}

-- at the start the nodes have what they have before
abbrev pub at_start : SendMapValue → PlacementValue → List (List LitValue)
at_start m pre = map (λ (c, n). (if holds pre (c, n) then arrival m c n 0 else negation (arrival m c n 0)) ∷ []) (all_pairs m.chunks m.nodes)

-- what a node has it keeps
abbrev pub keeps : SendMapValue → List (List LitValue)
keeps m = flat_map (λ (c, n). map (λ s. negation (arrival m c n (s - 1)) ∷ arrival m c n s ∷ []) (steps_of m)) (all_pairs m.chunks m.nodes)

-- at the end the nodes have what they have after
abbrev pub at_end : SendMapValue → PlacementValue → List (List LitValue)
at_end m post = map (λ (c, n). arrival m c n m.steps ∷ []) (filter (holds post) (all_pairs m.chunks m.nodes))

-- a send goes from a node that has the chunk to one that lacks it, which then has it
abbrev pub send_over : SendMapValue → ℕ → ℕ × (ℕ × ℕ) → ℕ → List (List LitValue)
send_over m c (e, link) s =
    (negation (sent m c e s) ∷ arrival m c link.0 (s - 1) ∷ [])
    ∷ (negation (sent m c e s) ∷ negation (arrival m c link.1 (s - 1)) ∷ [])
    ∷ (negation (sent m c e s) ∷ arrival m c link.1 s ∷ [])
    ∷ []

abbrev pub sends_arrive : SendMapValue → List (List LitValue)
sends_arrive m = flat_map (λ c. flat_map (λ link. flat_map (send_over m c link) (steps_of m)) (enumerate_from 0 m.links)) (range_with_len 0 m.chunks)

-- the sends of a chunk that bring it to a node at a step
abbrev pub sends_into : SendMapValue → ℕ → ℕ → ℕ → List LitValue
sends_into m c n s = map (λ (e, link). sent m c e s) (links_into m n)

-- a node that has a chunk had it before the step, or was sent it
abbrev pub arrives_by_sends : SendMapValue → List (List LitValue)
arrives_by_sends m = flat_map (λ (c, n). map (λ s. arrival m c n (s - 1) ∷ negation (arrival m c n s) ∷ sends_into m c n s) (steps_of m)) (all_pairs m.chunks m.nodes)

-- and was sent it once
abbrev pub arrives_once : SendMapValue → List (List LitValue)
arrives_once m = flat_map (λ (c, n). flat_map (λ s. at_most_one_of (sends_into m c n s)) (steps_of m)) (all_pairs m.chunks m.nodes)

abbrev pub sending : SendMapValue → PlacementValue → PlacementValue → List (List LitValue)
sending m pre post = at_start m pre ++ keeps m ++ at_end m post ++ sends_arrive m ++ arrives_by_sends m ++ arrives_once m
