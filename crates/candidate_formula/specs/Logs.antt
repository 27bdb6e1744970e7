-- How long the lines of a log are. This project's own bounds.
use Rattle.std.specs.Prelude.{ℕ, ◌≤◌, length}
use Rattle.cnf_formula.specs.Lines.{ProofLineValue}

-- the most lines of a log: one for each conflict, and one that closes it
abbrev pub most_lines : ℕ
most_lines = 100001

-- a literal for each variable, and one hint more, where the variables are those of a small question
pub record IsShortLine (line : ProofLineValue) : Type 0 where
  pub lits : length line.lits ≤ 2097152
  pub hints : length line.hints ≤ 2097153
