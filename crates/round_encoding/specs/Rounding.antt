-- What the rounds of a step allow, and the formula of a candidate (Cai et al., PPoPP 2021, section on the encoding).
use Rattle.std.specs.{Prelude.{ℕ, ◌+◌, ◌-◌, ◌*◌, if◌then◌else◌, List, [], ◌∷◌, ◌++◌, map, flat_map, nat_lt, slice_index_or}, List.range_with_len}
use Rattle.schedule.specs.{Links.{GroupValue, TopologyValue}, Placed.PlacementValue}
use Rattle.cnf_formula.specs.{Literals.{LitValue, yes, negation}, Formulas.FormulaValue}
use Rattle.cardinality.specs.{Counting.output, Totalizers.totalizer_of}
use Rattle.round_encoding.specs.{declared.encoding.Encoding.Encoding, Frames.{Frame, frame_of, extra_round, own_variables}}
use Rattle.send_encoding.specs.{Variables.{map_of, arrivals, link_number, sends, steps_of, sent}, Sending.sending}

-- a step with j + 1 extra rounds has j of them
abbrev pub extra_in_order : Frame → List (List LitValue)
extra_in_order f = flat_map (λ s. map (λ j. negation (extra_round f s (j + 1)) ∷ extra_round f s j ∷ []) (range_with_len 1 (f.extra - 1))) (steps_of f.map)

-- literals that are counted up to a bound, and what is said of the outputs, numbered from 1
pub record Count : Type 0 where
  pub inputs : List LitValue
  pub bound : ℕ
  pub says : (ℕ → LitValue) → List (List LitValue)

-- the steps have no more extra rounds together than there are
abbrev pub count_of_rounds : Frame → Count
count_of_rounds f = record {
  inputs = flat_map (λ s. map (extra_round f s) (range_with_len 1 f.extra)) (steps_of f.map);
  bound = f.extra;
  says = λ o. (negation (o (f.extra + 1)) ∷ []) ∷ [];
}

-- output t of a list, from 1
abbrev pub output_at : List LitValue → ℕ → LitValue
output_at outputs t = slice_index_or outputs (t - 1) (yes 0)

-- a group carries its width in a step's first round, and in each extra round that the step has
abbrev pub count_of_group : Frame → ℕ → GroupValue → Count
count_of_group f s group = record {
  inputs = flat_map (λ c. map (λ link. sent f.map c (link_number f.map link) s) group.links) (range_with_len 0 f.map.chunks);
  bound = group.width * (1 + f.extra);
  says = λ o. map (λ j. negation (o (group.width * j + 1)) ∷ extra_round f s j ∷ []) (range_with_len 1 f.extra) ++ (negation (o (group.width * (1 + f.extra) + 1)) ∷ []) ∷ [];
}

abbrev pub counts_in : Frame → TopologyValue → List Count
counts_in f t = (if nat_lt 0 f.extra then count_of_rounds f ∷ [] else []) ++ flat_map (λ s. map (count_of_group f s) t.groups) (steps_of f.map)

-- the counters in their order, each with the next free variables
abbrev pub counters_after : ℕ → List Count → FormulaValue
counters_after before [] = record { vars = before; clauses = [] }
counters_after before (count ∷ counts) =
    let counter = totalizer_of before count.inputs count.bound in
    let later = counters_after (before + counter.vars) counts in
    record { vars = later.vars; clauses = counter.clauses ++ count.says (output counter) ++ later.clauses }

-- the formula with one more counter, and what is said of it
abbrev pub with_count : FormulaValue → Count → FormulaValue
with_count f count =
    let counter = totalizer_of f.vars count.inputs count.bound in
    record { vars = f.vars + counter.vars; clauses = f.clauses ++ counter.clauses ++ count.says (output counter) }

-- the formula of a candidate of so many steps and rounds
abbrev pub formula_of : TopologyValue → PlacementValue → PlacementValue → ℕ → ℕ → FormulaValue
formula_of t pre post steps rounds =
    let f = frame_of t pre steps rounds in
    let counters = counters_after (own_variables f) (counts_in f t) in
    record { vars = counters.vars; clauses = sending f.map pre post ++ extra_in_order f ++ counters.clauses }

-- the formula, with what its variables stand for
abbrev pub encoding_of : TopologyValue → PlacementValue → PlacementValue → ℕ → ℕ → Encoding
encoding_of t pre post steps rounds = record {
  formula = formula_of t pre post steps rounds;
  map = map_of t pre steps;
  extra_from = arrivals (map_of t pre steps) + sends (map_of t pre steps) + 1;
  steps = steps;
  extra = rounds - steps;
}
