-- The tests of proof lines by name, of lines that are said or not.
use Rattle.std.specs.Prelude.{◌==◌, ◌&&◌, ℕ, Bool, false, List, length, Option, None, Some}
use Rattle.cnf_formula.specs.{Formulas.FormulaValue, declared.line.LratLine.LratLine}
use Rattle.proof_rules.specs.{Held.start_of, Refuting.{all_accepted, after_lines, are_learned}}

-- the lines refute the formula
abbrev pub do_refute : FormulaValue → Option (List LratLine) → Bool
do_refute f said = elim said [ None ↦ false | Some lines ↦ all_accepted (start_of f) lines && (after_lines (start_of f) lines).refuted ]

-- so many lines are a spent log of the formula
abbrev pub do_spend : FormulaValue → ℕ → Option (List LratLine) → Bool
do_spend f n said = elim said [ None ↦ false | Some lines ↦ length lines == n && are_learned (start_of f) lines ]
