-- Pairs by rows and then by columns, and the first of them that passes a test.
use Rattle.std.proofs.Common.{◌≡◌, ℕ, ◌+◌, ◌-◌, ◌<◌, ◌≤◌, Bool, ◌&&◌, List, [], ◌∷◌, map, Some, None, refl, ap, ◌∙◌, arith}
use Rattle.std.{specs.{List.{find, filter, flat_map, range_with_len}, Option.{option_map, option_or}}, proofs.lemmas.List.Folds.find-append}

-- the pairs of the rows from one on and below another, each with so many columns
abbrev pub rows_from : ℕ → ℕ → ℕ → List (ℕ × ℕ)
rows_from low high columns = flat_map (λ row. map (λ column. (row, column)) (range_with_len 0 columns)) (range_with_len low (high - low))

pub range_more : (low high : ℕ) → low < high → range_with_len low (high - low) ≡ low ∷ range_with_len (low + 1) (high - (low + 1))
range_more low high below = grind arith

pub range_none : (low high : ℕ) → high ≤ low → range_with_len low (high - low) ≡ []
range_none low high past = grind arith

-- the first column of a row
find_in_row : (test : ℕ × ℕ → Bool) (row : ℕ) (columns : List ℕ) → find test (map (λ column. (row, column)) columns) ≡ option_map (λ column. (row, column)) (find (λ column. test (row, column)) columns)
find_in_row test row [] = refl
find_in_row test row (c ∷ cs) = grind (arith, find_in_row test row cs)

rows_more : (test : ℕ × ℕ → Bool) (low high columns : ℕ) → low < high → find test (rows_from low high columns) ≡ option_or (option_map (λ column. (low, column)) (find (λ column. test (low, column)) (range_with_len 0 columns))) (find test (rows_from (low + 1) high columns))
rows_more test low high columns below =
    let row : ℕ → List (ℕ × ℕ) = λ r. map (λ column. (r, column)) (range_with_len 0 columns) in
    ap (λ rs. find test (flat_map row rs)) (range_more low high below)
    ∙ (find-append test (row low) (rows_from (low + 1) high columns)
    ∙ ap (λ first. option_or first (find test (rows_from (low + 1) high columns))) (find_in_row test low (range_with_len 0 columns)))

-- where a row has one, it is the first of all
pub find_here : (test : ℕ × ℕ → Bool) (low high columns column : ℕ) → low < high → Some column ≡ find (λ c. test (low, c)) (range_with_len 0 columns) → find test (rows_from low high columns) ≡ Some (low, column)
find_here test low high columns column below found = grind (arith, rows_more)

-- where it has none, the search goes on in the rows after it
pub find_later : (test : ℕ × ℕ → Bool) (low high columns : ℕ) → low < high → None ≡ find (λ c. test (low, c)) (range_with_len 0 columns) → find test (rows_from low high columns) ≡ find test (rows_from (low + 1) high columns)
find_later test low high columns below none = grind (arith, rows_more)

pub find_nowhere : (test : ℕ × ℕ → Bool) (low high columns : ℕ) → high ≤ low → find test (rows_from low high columns) ≡ None
find_nowhere test low high columns past = grind (arith, range_none)

-- the first of those that pass another test
pub find-filter : {X : Type 0} (p q : X → Bool) (xs : List X) → find p (filter q xs) ≡ find (λ x. q x && p x) xs
find-filter p q [] = refl
find-filter p q (x ∷ xs) = grind (arith, find-filter p q xs)

pub rows_start : (rows columns : ℕ) → rows_from 0 rows columns ≡ flat_map (λ row. map (λ column. (row, column)) (range_with_len 0 columns)) (range_with_len 0 rows)
rows_start rows columns = grind arith
