-- The rows of a table as plain pairs.
use Rattle.std.specs.Prelude.{ℕ, List, map}
use Rattle.case_table.specs.declared.row.Row.{Row}

-- each row's word and number
abbrev pub entries : List Row → List (List ℕ × ℕ)
entries rows = map (λ row. (row.word.now, row.value)) rows
