-- What is said of a file (this project's own).
use Rattle.std.specs.Prelude.{◌≡◌, ◌&&◌, ℕ, Bool, true, if◌then◌else◌, List, length, Option, None, Some, nat_le}
use Rattle.cnf_formula.specs.{Formulas.FormulaValue, Lines.ProofLineValue}
use Rattle.proof_rules.specs.Refuting.{SpentLog}
use Rattle.proof_audit.specs.declared.verdict.FileVerdict.{FileVerdict, TheVariants.{Missing, Refused, Stands}}

-- there is no file, or its bytes pass the test, or they do not
abbrev pub file_verdict : (List ℕ → Bool) → Option (List ℕ) → FileVerdict
file_verdict test None = Missing
file_verdict test (Some bytes) = if test bytes then Stands else Refused

-- some file, or the lack of one, gives this verdict
pub record IsFileVerdict (test : List ℕ → Bool) (verdict : FileVerdict) : Type 0 where
  pub file : Option (List ℕ)
  pub is : verdict ≡ file_verdict test file

-- at most so many bytes pass the test
abbrev pub short_and : ℕ → (List ℕ → Bool) → List ℕ → Bool
short_and limit test bytes = nat_le (length bytes) limit && test bytes

-- some bytes pass the test
pub record SomePass (test : List ℕ → Bool) : Type 0 where
  pub bytes : List ℕ
  pub pass : test bytes ≡ true

-- there is a spent log of so many lines
abbrev pub HasSpentLog : FormulaValue → ℕ → Type 0
HasSpentLog f n = ∥ ((lines : List ProofLineValue) × SpentLog lines f n) ∥₁
