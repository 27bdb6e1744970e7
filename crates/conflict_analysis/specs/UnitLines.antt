-- What is learned of a literal of level 0: a line of this literal alone, and the hints by which it is accepted.
use Rattle.std.specs.Prelude.{◌≡◌, ℕ, Bool, List, [], ◌++◌, ◌∷◌, None, take}
use Rattle.cnf_formula.specs.{Literals.negation, Lines.ProofLineValue}
use Rattle.trail_core.specs.{Trails.StepValue, Meaning.CoreValue}
use Rattle.conflict_analysis.specs.{Met.lit_at, Learning.{IsAnalysis, hints_to}}

-- the trail below a place, and then the negation of the literal at this place, as a decision
abbrev pub denied : CoreValue → ℕ → List StepValue
denied core place = take place core.trail ++ record { lit = negation (lit_at core place); reason = None } ∷ []

-- the line has the literal at a place alone, and follows from the clause that is falsified there where its negation is decided
pub record IsUnitLine (core : CoreValue) (place : ℕ) (line : ProofLineValue) : Type 0 where
  pub conflict : ℕ
  pub resolved : StepValue → Bool
  pub lits : line.lits ≡ lit_at core place ∷ []
  pub analysis : IsAnalysis core.clauses (denied core place) resolved conflict line.lits
  pub hints : line.hints ≡ hints_to resolved (denied core place) conflict
