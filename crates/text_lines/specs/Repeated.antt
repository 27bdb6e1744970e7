-- Lines, and parts of several lines, that repeat: each begins with a word, and the first line that doesn't begin so stays to be read.
use Rattle.std.specs.{Prelude.{ℕ, ◌+◌, zero, suc, Bool, false, if◌then◌else◌, List, [], ◌∷◌, ◌++◌, length, Option, None, Some, Result, Ok, nat_eq}, List.starts_with}
use Rattle.text_lines.specs.{Text.{Row, Place}, Check.{◌>>=◌, at_line, first}}

-- the line begins with the word
abbrev pub begins : List ℕ → List ℕ → Bool
begins word bytes = starts_with nat_eq bytes word

-- there is a line, and it begins with the word
abbrev pub row_begins : List ℕ → Option Row → Bool
row_begins word None = false
row_begins word (Some row) = begins word row.bytes

-- the lines that begin with the word, each checked after those that were read before, and the place behind them
abbrev pub lines_from : {A C : Type 0} → List ℕ → (List A → Option Row → Result A C) → List A → ℕ → List Row → Result (List A × Place) (C × ℕ)
lines_from word check before n [] = Ok (before, record { number = n; rows = [] })
lines_from word check before n (row ∷ rows) = if begins word row.bytes then (do
  x ← at_line n (check before (Some row))
  lines_from word check (before ++ x ∷ []) (n + 1) rows) else Ok (before, record { number = n; rows = row ∷ rows })

abbrev pub lines_at : {A C : Type 0} → List ℕ → (List A → Option Row → Result A C) → Place → Result (List A × Place) (C × ℕ)
lines_at word check p = lines_from word check [] p.number p.rows

-- the same of parts of several lines: at most so many, each after those that were read before
abbrev pub parts_from : {A C : Type 0} → List ℕ → (List A → Place → Result (A × Place) (C × ℕ)) → ℕ → List A → Place → Result (List A × Place) (C × ℕ)
parts_from word check zero before p = Ok (before, p)
parts_from word check (suc n) before p = if row_begins word (first p.rows) then (do
  x ← check before p
  parts_from word check n (before ++ x.0 ∷ []) x.1) else Ok (before, p)

-- there are no more parts than lines
abbrev pub parts_at : {A C : Type 0} → List ℕ → (List A → Place → Result (A × Place) (C × ℕ)) → Place → Result (List A × Place) (C × ℕ)
parts_at word check p = parts_from word check (length p.rows) [] p
