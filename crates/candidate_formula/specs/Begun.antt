-- Files that a search began, and may not have ended.
use Rattle.std.specs.Prelude.{◌≡◌, ◌⊎◌, ℕ, true, List, ◌++◌, Some}
use Rattle.outer_ports.specs.{declared.proof_name.{FileKind.{FileKind, TheVariants.Cnf}, ProofName.ProofName}, Files.Files}
use Rattle.cnf_formula.specs.{Formulas.FormulaValue, declared.line.LratLine.LratLine}
use Rattle.proof_rules.specs.{Held.start_of, Refuting.all_accepted}
use Rattle.lrat_text.specs.Printing.{cnf_text, lrat_text}

-- what a file may come to hold: the text of the formula, or the text of lines that are accepted in their turn
abbrev pub IsWholeText : FormulaValue → FileKind → List ℕ → Type 0
IsWholeText f Cnf text = text ≡ cnf_text f
IsWholeText f _ text = (lines : List LratLine) × (all_accepted (start_of f) lines ≡ true) × (text ≡ lrat_text lines)

-- the file stands there, and begins such a text
pub record IsBegun (f : FormulaValue) (files : Files) (name : ProofName) : Type 0 where
  pub bytes : List ℕ
  pub rest : List ℕ
  pub stands : files name ≡ Some bytes
  pub begins : IsWholeText f name.kind (bytes ++ rest)

-- each file is as before, or is one that may be changed and was begun, for the formula that belongs to its name
pub record BegunOnly (may : ProofName → Type 0) (formula : ProofName → FormulaValue) (before after : Files) : Type 0 where
  pub each : (name : ProofName) → (after name ≡ before name) ⊎ (may name × IsBegun (formula name) after name)
