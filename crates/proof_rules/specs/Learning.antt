-- Additions in their turn by their verdicts, as what writes lines keeps them.
use Rattle.std.specs.Prelude.{◌≡◌, true, List, [], ◌∷◌}
use Rattle.cnf_formula.specs.Lines.{ProofLineValue}
use Rattle.proof_rules.specs.{declared.verdict.LineVerdict.TheVariants.Accepted, Held.CheckerValue, Judging.verdict_of, Refuting.{with_line, is_fresh}}

-- each addition follows from what is held in its turn
abbrev pub AllImplied : CheckerValue → List ProofLineValue → Type 0
AllImplied c [] = Unit {0}
AllImplied c (line ∷ lines) = (verdict_of c line ≡ Accepted true) × AllImplied (with_line c line) lines

-- each clause is fresh in its turn
abbrev pub AllFresh : CheckerValue → List ProofLineValue → Type 0
AllFresh c [] = Unit {0}
AllFresh c (line ∷ lines) = (is_fresh c line.lits ≡ true) × AllFresh (with_line c line) lines
