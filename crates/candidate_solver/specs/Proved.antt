-- What the lines of a search prove of a candidate, by its formula.
use Rattle.std.specs.Prelude.{◌≡◌, ℕ, List, map}
use Rattle.cnf_formula.specs.{Formulas.FormulaValue, Lines.ProofLineValue, declared.line.LratLine.TheVariants.Addition}
use Rattle.proof_rules.specs.Refuting.{Refutes}
use Rattle.engine_rules.specs.{declared.settled.Settled.Settled, Outcomes.SpentOn}
use Rattle.engine_rules.specs.declared.settled.Settled.TheVariants as settled

-- the lines of the search, of which so many could be learned, prove such an outcome
pub record IsProved (f : FormulaValue) (limit : ℕ) (lines : List ProofLineValue) (kind : Settled) : Type 0 where
  pub refuted : kind ≡ settled.Refuted → Refutes (map Addition lines) f
  pub unknown : kind ≡ settled.Unknown → SpentOn f lines limit
