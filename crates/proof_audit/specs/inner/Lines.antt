-- What is left to be read of a text of proof lines (LRAT: Cruz-Filipe et al. 2017).
use Rattle.std.specs.Prelude.{◌≡◌, ℕ, Bool, false, List, ◌∷◌, ◌++◌, Option, None, Some, Result, Ok, Err}
use Rattle.text_lines.specs.{Text.rows_of, Check.◌>>=◌}
use Rattle.cnf_formula.specs.declared.line.LratLine.{LratLine}
use Rattle.lrat_text.specs.{declared.fault.LratTextFault.LratTextFault, Reading.ReaderValue}
use Rattle.candidate_formula.specs.Lines.{lines_from}

-- the lines that a reader still has to give where these are the last bytes that come, or the first fault
abbrev pub left_says : ReaderValue → List ℕ → Result (List LratLine) LratTextFault
left_says r more = lines_from r.place (rows_of (r.rest ++ more))

-- a reader that may be fed, and had no fault
pub record IsReading (r : ReaderValue) : Type 0 where
  pub unfinished : r.finished ≡ false
  pub calm : r.fault ≡ None

-- what was said comes before what is said later
abbrev pub before : Result (Option LratLine) LratTextFault → Result (List LratLine) LratTextFault → Result (List LratLine) LratTextFault
before (Ok None) later = later
before (Ok (Some line)) later = do
  lines ← later
  Ok (line ∷ lines)
before (Err fault) later = Err fault

-- there is no fault, and the lines pass the test
abbrev pub lines_pass : (List LratLine → Bool) → Result (List LratLine) LratTextFault → Bool
lines_pass test (Ok lines) = test lines
lines_pass test (Err fault) = false
