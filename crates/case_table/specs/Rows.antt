-- Tables of words and their numbers: lists of pairs of a word's bytes and its number. This project's own.
use Rattle.std.specs.{Prelude.{◌==◌, ◌&&◌, ℕ, Bool, true, not, List, [], ◌∷◌, Option, map, find, bytes_eq}, List.list_any, Option.option_map}

-- no two elements are the same
abbrev pub all_differ : {K : Type 0} → (K → K → Bool) → List K → Bool
all_differ same [] = true
all_differ same (x ∷ xs) = not (list_any (same x) xs) && all_differ same xs

-- no word stands twice, and no number
abbrev pub is_one_to_one : List (List ℕ × ℕ) → Bool
is_one_to_one rows = all_differ bytes_eq (map (λ row. row.0) rows) && all_differ (λ a b. a == b) (map (λ row. row.1) rows)

-- the number of the row with that word
abbrev pub value_at : List (List ℕ × ℕ) → List ℕ → Option ℕ
value_at rows word = option_map (λ row. row.1) (find (λ row. bytes_eq row.0 word) rows)

-- the word of the row with that number
abbrev pub word_at : List (List ℕ × ℕ) → ℕ → Option (List ℕ)
word_at rows value = option_map (λ row. row.0) (find (λ row. row.1 == value) rows)
