-- Counters up to low bounds have few variables and clauses together.
use Rattle.std.proofs.Common.{◌≡◌, ℕ, ◌+◌, ◌*◌, ◌<◌, ◌≤◌, List, [], ◌∷◌, ◌++◌, length, ap, ◌∙◌, arith, length-append, sum_by, All}
use Rattle.std.proofs.{Math.Nat.{mul-add, mul_assoc, mul-le-mul_left, mul-le-mul_right}, lemmas.List.{Elements.{All-head, All-tail}, Sums.sum_by-cons}}
use Rattle.cnf_formula.specs.Literals.{LitValue}
use Rattle.cardinality.{specs.{Counting.output, Totalizers.totalizer_of}, proofs.FewClauses.{few_variables, few_clauses}}
use Rattle.round_encoding.specs.Rounding.{Count, counters_after}

-- the most variables of a count
abbrev pub space : Count → ℕ
space count = length count.inputs * (count.bound + 1)

-- a count of some inputs up to a low bound, of whose outputs little is said
pub record IsLow (count : Count) : Type 0 where
  pub some : 0 < length count.inputs
  pub low : count.bound ≤ 144
  pub says : (o : ℕ → LitValue) → length (count.says o) ≤ count.bound + 1

squared : (b : ℕ) → b ≤ 144 → (b + 2) * (b + 2) ≤ (b + 1) * 148
squared b low =
    let next : (b + 2) * (b + 2) ≡ (b + 2) * (b + 1) + (b + 2) * 1 = ap (λ n. (b + 2) * n) (omega arith) ∙ mul-add (b + 2) (b + 1) 1 in
    let row : (b + 2) * (b + 1) ≤ 146 * (b + 1) = mul-le-mul_right (b + 1) (omega (arith, low)) in
    omega (arith, next, row)

-- the clauses of a counter, and what is said of its outputs
weighed : (n b : ℕ) → 0 < n → b ≤ 144 → n * ((b + 2) * (b + 2)) + (b + 1) ≤ n * (b + 1) * 149
weighed n b some low = grind (arith, mul-le-mul_left, squared, mul-le-mul_right, mul_assoc)

pub counted_variables : (before : ℕ) (counts : List Count) → All IsLow counts → (counters_after before counts).vars ≤ before + sum_by space counts
counted_variables before [] low = omega arith
counted_variables before (count ∷ counts) low =
    let counter = totalizer_of before count.inputs count.bound in
    omega (arith, few_variables before count.inputs count.bound (All-head IsLow count counts low).some, counted_variables (before + counter.vars) counts (All-tail IsLow count counts low), sum_by-cons space count counts)

pub counted_clauses : (before : ℕ) (counts : List Count) → All IsLow counts → length (counters_after before counts).clauses ≤ sum_by space counts * 149
counted_clauses before [] low = omega arith
counted_clauses before (count ∷ counts) low =
    let here = All-head IsLow count counts low in
    let counter = totalizer_of before count.inputs count.bound in
    let said : List (List LitValue) = count.says (output counter) in
    let later = counters_after (before + counter.vars) counts in
    omega (
      arith,
      few_clauses before count.inputs count.bound here.some,
      here.says (output counter),
      weighed (length count.inputs) count.bound here.some here.low,
      counted_clauses (before + counter.vars) counts (All-tail IsLow count counts low),
      sum_by-cons space count counts,
      length-append (counter.clauses ++ said) later.clauses,
      length-append counter.clauses said,
    )
