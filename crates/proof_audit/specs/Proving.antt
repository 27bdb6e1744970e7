-- The tests of files of proof lines (LRAT: Cruz-Filipe et al. 2017; logs are this project's own).
use Rattle.std.specs.Prelude.{◌==◌, ◌&&◌, ℕ, Bool, false, List, length, None, Some, nat_le}
use Rattle.cnf_formula.specs.{Formulas.FormulaValue, declared.line.LratLine.LratLine}
use Rattle.proof_rules.specs.{Held.start_of, Refuting.{all_accepted, after_lines, are_learned}}
use Rattle.candidate_formula.specs.{ReadLines.lines_said, Files.longest_proof}

-- the bytes are not too many, and say lines that pass this test
abbrev pub say_lines : (List LratLine → Bool) → List ℕ → Bool
say_lines test bytes = nat_le (length bytes) longest_proof && elim (lines_said bytes) [ None ↦ false | Some lines ↦ test lines ]

-- they say lines that refute the formula
abbrev pub is_refutation : FormulaValue → List ℕ → Bool
is_refutation f = say_lines (λ lines. all_accepted (start_of f) lines && (after_lines (start_of f) lines).refuted)

-- they say a spent log of so many lines
abbrev pub is_spent_log : FormulaValue → ℕ → List ℕ → Bool
is_spent_log f n = say_lines (λ lines. length lines == n && are_learned (start_of f) lines)
