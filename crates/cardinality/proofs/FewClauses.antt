-- A totalizer is small: each node of its tree joins two sides of at most so many outputs, and there are fewer nodes than inputs.
use Rattle.std.proofs.{Common.{◌≡◌, ℕ, refl, cond, ◌+◌, ◌*◌, ◌<◌, ◌≤◌, Bool, true, false, List, [], ◌∷◌, ◌++◌, length, ap, arith, length-append}, lemmas.{List.{length-map, FromFn.length-range_with_len}, Nat.mul-le}}
use Rattle.std.specs.List.{flat_map, range_with_len}
use Rattle.cnf_formula.specs.Literals.{LitValue}
use Rattle.cardinality.{specs.{Counting.at_most_one_of, Totalizers.{joins_at, joins, totalizer_of}}, proofs.{Lengths.flat_length, Sides.{Costs, totalizer_cost, variables_cost}}}

-- ---- pairs

pub pairs_are_few : (ls : List LitValue) → length (at_most_one_of ls) * 2 + length ls ≡ length ls * length ls
pairs_are_few [] = omega arith
pairs_are_few (l ∷ ls) = grind (arith, length-append, length-map, pairs_are_few ls)

-- ---- a node

one_where : (test : Bool) (clause : List LitValue) → length (cond test (clause ∷ []) []) ≤ 1
one_where true clause = omega arith
one_where false clause = omega arith

joins_few : (before numbers : ℕ) (left right : List LitValue) → length (joins before numbers left right) ≤ (length left + 1) * (length right + 1)
joins_few before numbers left right =
    let columns : List ℕ = range_with_len 0 (length right + 1) in
    let rows : List ℕ = range_with_len 0 (length left + 1) in
    let at : ℕ → ℕ → List (List LitValue) = joins_at before numbers left right in
    let row : (i : ℕ) → length (flat_map (at i) columns) ≤ length right + 1 =
    λ i. omega (arith, flat_length (at i) 1 columns (λ j. one_where _ _), length-range_with_len 0 (length right + 1)) in
    omega (arith, flat_length (λ i. flat_map (at i) columns) (length right + 1) rows row, ap (λ n. n * (length right + 1)) (length-range_with_len 0 (length left + 1)))

-- the most clauses of a node
abbrev most : ℕ → ℕ
most numbers = (numbers + 1) * (numbers + 1)

clauses_cost : (numbers : ℕ) → Costs numbers (most numbers) (λ counter. length counter.clauses)
clauses_cost numbers = record {
  none = refl;
  one = λ y. refl;
  joined = λ before many left right few few_left few_right.
      let joined = joins (before + left.vars + right.vars) numbers left.outputs right.outputs in
      let product : (length left.outputs + 1) * (length right.outputs + 1) ≤ most numbers = mul-le (length left.outputs + 1) (length right.outputs + 1) (numbers + 1) (numbers + 1) (omega (arith, few_left)) (omega (arith, few_right)) in
      omega (
        arith,
        joins_few (before + left.vars + right.vars) numbers left.outputs right.outputs,
        product,
        length-append (left.clauses ++ right.clauses) joined,
        length-append left.clauses right.clauses,
      );
}

-- ---- the counter

pub few_variables : (before : ℕ) (inputs : List LitValue) (bound : ℕ) → 0 < length inputs → (totalizer_of before inputs bound).vars ≤ length inputs * (bound + 1)
few_variables before inputs bound any = totalizer_cost (bound + 1) (bound + 1) (omega arith) (λ counter. counter.vars) (variables_cost (bound + 1)) before inputs any

pub few_clauses : (before : ℕ) (inputs : List LitValue) (bound : ℕ) → 0 < length inputs → length (totalizer_of before inputs bound).clauses ≤ length inputs * ((bound + 2) * (bound + 2))
few_clauses before inputs bound any =
    let two : bound + 1 + 1 ≡ bound + 2 = omega arith in
    let same : length inputs * most (bound + 1) ≡ length inputs * ((bound + 2) * (bound + 2)) = ap (λ k. length inputs * (k * k)) two in
    omega (arith, totalizer_cost (bound + 1) (most (bound + 1)) (omega arith) (λ counter. length counter.clauses) (clauses_cost (bound + 1)) before inputs any, same)
