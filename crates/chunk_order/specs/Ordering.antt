-- The clauses that put chunks that are alike in order, and the formula of a candidate with them. This project's own.
use Rattle.std.specs.{Prelude.{ℕ, not, Bool, if◌then◌else◌, List, [], ◌∷◌, map, filter, flat_map, Option, None, Some}, List.{list_any, range_with_len}}
use Rattle.schedule.specs.{Links.TopologyValue, Placed.PlacementValue}
use Rattle.cnf_formula.specs.{Literals.{LitValue, negation}, Formulas.{FormulaValue, with_clauses}}
use Rattle.send_encoding.specs.Variables.{SendMapValue, map_of, steps_of, arrival}
use Rattle.round_encoding.specs.Rounding.{formula_of}
use Rattle.chunk_order.specs.Alike.{is_alike, watch_node}

-- no chunk of a smaller number is alike
abbrev pub is_least : PlacementValue → PlacementValue → ℕ → Bool
is_least pre post c = not (list_any (is_alike pre post c) (range_with_len 0 c))

-- the chunks that are alike with one, ascending
abbrev pub class_of : PlacementValue → PlacementValue → ℕ → List ℕ
class_of pre post c = filter (is_alike pre post c) (range_with_len 0 pre.chunks)

-- each element with the next
abbrev pub next_pairs : List ℕ → List (ℕ × ℕ)
next_pairs [] = []
next_pairs (c ∷ []) = []
next_pairs (c ∷ d ∷ ds) = (c, d) ∷ next_pairs (d ∷ ds)

-- after each step, the first chunk is at the node where the second is
abbrev pub pair_in_order : SendMapValue → ℕ → ℕ × ℕ → List (List LitValue)
pair_in_order m node (c, d) = map (λ step. negation (arrival m d node step) ∷ arrival m c node step ∷ []) (steps_of m)

-- a class without a watch node has no order
abbrev pub class_in_order : SendMapValue → Option ℕ → List ℕ → List (List LitValue)
class_in_order m None chunks = []
class_in_order m (Some node) chunks = flat_map (pair_in_order m node) (next_pairs chunks)

-- the clauses of the class of a chunk, where the chunk is the least of it
abbrev pub leads_in_order : SendMapValue → PlacementValue → PlacementValue → ℕ → List (List LitValue)
leads_in_order m pre post c = if is_least pre post c then class_in_order m (watch_node pre post c) (class_of pre post c) else []

-- the clauses of each class of chunks that are alike, by its least chunk
abbrev pub order_clauses : SendMapValue → PlacementValue → PlacementValue → List (List LitValue)
order_clauses m pre post = flat_map (λ c. class_in_order m (watch_node pre post c) (class_of pre post c)) (filter (is_least pre post) (range_with_len 0 pre.chunks))

-- the formula of a candidate of so many steps and rounds, followed by the clauses of the order
abbrev pub ordered_formula_of : TopologyValue → PlacementValue → PlacementValue → ℕ → ℕ → FormulaValue
ordered_formula_of t pre post steps rounds = with_clauses (formula_of t pre post steps rounds) (order_clauses (map_of t pre steps) pre post)
