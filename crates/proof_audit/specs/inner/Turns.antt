-- Lines in their turn by the verdicts on them, as a checker gives these.
use Rattle.std.specs.Prelude.{◌&&◌, Bool, true, false, if◌then◌else◌, List, [], ◌∷◌, Option, None, Some}
use Rattle.cnf_formula.specs.declared.line.LratLine.{LratLine, TheVariants.{Addition, Deletion}}
use Rattle.proof_rules.specs.{Held.CheckerValue, Judging.{verdict_of, verdict_on, is_accepted, is_implied}, Refuting.{with_accepted, with_line, is_fresh}}

-- the checker after these lines, where each is accepted in its turn
abbrev pub checker_after : CheckerValue → List LratLine → Option CheckerValue
checker_after c [] = Some c
checker_after c (line ∷ lines) = if is_accepted (verdict_on c line) then checker_after (with_accepted c line) lines else None

abbrev pub is_refuted : Option CheckerValue → Bool
is_refuted None = false
is_refuted (Some c) = c.refuted

-- each line is an addition that is implied and fresh in its turn
abbrev pub are_taken : CheckerValue → List LratLine → Bool
are_taken c [] = true
are_taken c (Deletion deletion ∷ lines) = false
are_taken c (Addition line ∷ lines) = is_implied (verdict_of c line) && is_fresh c line.lits && are_taken (with_line c line) lines
