-- The totalizer (Bailleux and Boufkhad 2003): the inputs are halved again and again, and what two halves count is counted together.
use Rattle.std.specs.{Prelude.{ℕ, zero, suc, ◌+◌, ◌/◌, ◌&&◌, min, List, [], ◌∷◌, ◌++◌, length, take, drop, map, nat_lt, nat_le, flat_map, if◌then◌else◌, slice_index_or}, List.range_with_len}
use Rattle.cnf_formula.specs.Literals.{LitValue, yes, negation}
use Rattle.cardinality.specs.Counting.{CounterValue}

-- the literal that says that output i is false, i from 1
abbrev pub unless : List LitValue → ℕ → List LitValue
unless outputs zero = []
unless outputs (suc i) = negation (slice_index_or outputs i (yes 0)) ∷ []

-- where one side reaches i and the other j, both reach i + j, if that is counted
abbrev pub joins_at : ℕ → ℕ → List LitValue → List LitValue → ℕ → ℕ → List (List LitValue)
joins_at before numbers left right i j = if nat_lt 0 (i + j) && nat_le (i + j) numbers then (unless left i ++ unless right j ++ yes (before + (i + j)) ∷ []) ∷ [] else []

abbrev pub joins : ℕ → ℕ → List LitValue → List LitValue → List (List LitValue)
joins before numbers left right = flat_map (λ i. flat_map (joins_at before numbers left right i) (range_with_len 0 (length right + 1))) (range_with_len 0 (length left + 1))

-- two sides, then so many outputs of their own, of which the first few are counted
abbrev pub joined_counters : ℕ → ℕ → ℕ → CounterValue → CounterValue → CounterValue
joined_counters before numbers many left right =
    let own = before + left.vars + right.vars in
    record {
      vars = left.vars + right.vars + many;
      clauses = left.clauses ++ right.clauses ++ joins own numbers left.outputs right.outputs;
      outputs = map (λ j. yes (own + j)) (range_with_len 1 many);
    }

-- the counters of the first half of the inputs, rounded down, and of the others, joined
abbrev pub joined_halves : (ℕ → List LitValue → CounterValue) → ℕ → ℕ → ℕ → List LitValue → CounterValue
joined_halves counter_of before numbers many ys =
    let half = length ys / 2 in
    let left = counter_of before (take half ys) in
    joined_counters before numbers many left (counter_of (before + left.vars) (drop half ys))

-- the counter of at most so many inputs up to a number, where so many variables stand before it: one input counts itself, and more are halved again and again
abbrev pub side_within : ℕ → ℕ → ℕ → List LitValue → CounterValue
side_within (suc n) numbers before (y ∷ []) = record { vars = 0; clauses = []; outputs = y ∷ [] }
side_within (suc n) numbers before (y ∷ z ∷ ys) = joined_halves (side_within n numbers) before numbers (min numbers (length (y ∷ z ∷ ys))) (y ∷ z ∷ ys)
side_within n numbers before ys = record { vars = 0; clauses = []; outputs = [] }

-- the counter of a side
abbrev pub side_of : ℕ → ℕ → List LitValue → CounterValue
side_of numbers before ys = side_within (length ys) numbers before ys

-- the counter of these inputs up to bound + 1; the root has all of these outputs, and also a root with one input has its own
abbrev pub totalizer_of : ℕ → List LitValue → ℕ → CounterValue
totalizer_of before inputs bound = joined_halves (side_of (bound + 1)) before (bound + 1) (bound + 1) inputs
