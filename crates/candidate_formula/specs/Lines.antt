-- The lines that a whole file of proof lines says (LRAT: Cruz-Filipe et al. 2017).
use Rattle.std.specs.Prelude.{ℕ, ◌+◌, List, [], ◌∷◌, Option, None, Some, Result, Ok}
use Rattle.text_lines.specs.{Text.{Row, rows_of}, Check.◌>>=◌}
use Rattle.cnf_formula.specs.declared.line.LratLine.{LratLine}
use Rattle.lrat_text.specs.{declared.fault.LratTextFault.LratTextFault, Reading.{row_says, size_of}}

-- a row that says nothing is passed over
abbrev pub in_front : Option (Result LratLine LratTextFault) → Result (List LratLine) LratTextFault → Result (List LratLine) LratTextFault
in_front None later = later
in_front (Some said) later = do
  line ← said
  lines ← later
  Ok (line ∷ lines)

abbrev pub lines_from : ℕ → List Row → Result (List LratLine) LratTextFault
lines_from place [] = Ok []
lines_from place (row ∷ rows) = in_front (row_says place row) (lines_from (place + size_of row) rows)

-- every line of a text, or the first fault and its place
abbrev pub lines_of_text : List ℕ → Result (List LratLine) LratTextFault
lines_of_text bytes = lines_from 0 (rows_of bytes)
