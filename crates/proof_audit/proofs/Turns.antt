-- Lines pass by the verdicts on them exactly where they pass by the tests that give no reason.
use Rattle.std.proofs.Common.{arith, ◌≡◌, refl, Bool, true, false, List, [], ◌∷◌, Option, None, ◌&&◌, if◌then◌else◌}
use Rattle.cnf_formula.specs.declared.line.LratLine.{LratLine, TheVariants.{Addition, Deletion}}
use Rattle.proof_rules.{specs.{Held.CheckerValue, Refuting.{all_accepted, with_accepted, with_line, after_lines, are_learned}}, proofs.Tested.{acceptance_said, rup_said}}
use Rattle.proof_audit.specs.inner.Turns.{checker_after, is_refuted, are_taken}

one_more : (now later refuted : Bool) (o : Option CheckerValue) → is_refuted o ≡ (later && refuted) → is_refuted (if now then o else None) ≡ (now && later && refuted)
one_more true later refuted o e = e
one_more false later refuted o e = refl

pub same_refuting : (c : CheckerValue) (lines : List LratLine) → is_refuted (checker_after c lines) ≡ (all_accepted c lines && (after_lines c lines).refuted)
same_refuting c [] = refl
same_refuting c (line ∷ lines) = grind (arith, one_more, acceptance_said, same_refuting (with_accepted c line) lines)

pub same_learning : (c : CheckerValue) (lines : List LratLine) → are_taken c lines ≡ are_learned c lines
same_learning c [] = refl
same_learning c (Deletion deletion ∷ lines) = refl
same_learning c (Addition line ∷ lines) = grind (arith, rup_said, same_learning (with_line c line) lines)
