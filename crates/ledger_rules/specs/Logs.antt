-- The lines that a ledger holds.
use Rattle.std.specs.Prelude.{List, map, filter, not}
use Rattle.cnf_formula.specs.{Formulas.FormulaValue, Lines.ProofLineValue, declared.line.LratLine.TheVariants.Addition}
use Rattle.proof_rules.specs.{Held.{CheckerValue, start_of, has_none}, Refuting.after_lines}

-- the checker that has accepted these lines, which are all additions
abbrev pub checker_of : FormulaValue → List ProofLineValue → CheckerValue
checker_of base lines = after_lines (start_of base) (map Addition lines)

-- the lines that were learned: a line that closes a refutation has no literal
abbrev pub learned : List ProofLineValue → List ProofLineValue
learned lines = filter (λ line. not (has_none line.lits)) lines
