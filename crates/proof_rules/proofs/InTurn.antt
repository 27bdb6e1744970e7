-- Additions that follow from what is held, each in its turn: one line more, and what they are among all lines.
use Rattle.std.proofs.{Common.{arith, ◌≡◌, true, List, [], ◌∷◌, ◌++◌, map, refl, ◌↔◌}, lemmas.Bool.Decides.nat_tests}
use Rattle.cnf_formula.specs.{Lines.ProofLineValue, declared.line.LratLine.TheVariants.Addition}
use Rattle.proof_rules.specs.{declared.verdict.LineVerdict.TheVariants.Accepted, Held.CheckerValue, Learning.{AllImplied, AllFresh}, Judging.verdict_of, Refuting.{all_accepted, after_lines, with_line, are_learned}}
use Rattle.proof_rules.proofs.{Verdicts.{implied_by, by_implied}, Tested.{rup_by, by_rup, acceptance_said}}

-- the checker after one line more
pub after_more : (lines : List ProofLineValue) (c : CheckerValue) (line : ProofLineValue) → after_lines c (map Addition (lines ++ line ∷ [])) ≡ with_line (after_lines c (map Addition lines)) line
after_more [] c line = refl
after_more (l ∷ lines) c line = after_more lines (with_line c l) line

pub implied_more : (lines : List ProofLineValue) (c : CheckerValue) (line : ProofLineValue) → AllImplied c lines → verdict_of (after_lines c (map Addition lines)) line ≡ Accepted true → AllImplied c (lines ++ line ∷ [])
implied_more [] c line all last = (last, tt)
implied_more (l ∷ lines) c line all last = (all.0, implied_more lines (with_line c l) line all.1 last)

-- lines that follow are accepted
pub implied_accepted : (lines : List ProofLineValue) (c : CheckerValue) → AllImplied c lines → all_accepted c (map Addition lines) ≡ true
implied_accepted [] c all = refl
implied_accepted (l ∷ lines) c all = grind (arith, acceptance_said c (Addition l), implied_accepted lines (with_line c l) all.1)

-- lines are learned where each follows and is fresh
pub are_learned_by : (lines : List ProofLineValue) (c : CheckerValue) → AllImplied c lines → AllFresh c lines → are_learned c (map Addition lines) ≡ true
are_learned_by [] c all fresh = refl
are_learned_by (l ∷ lines) c all fresh = grind (arith, by_rup, implied_by, are_learned_by lines (with_line c l) all.1 fresh.1)

pub learned_in_turn : (lines : List ProofLineValue) (c : CheckerValue) → are_learned c (map Addition lines) ≡ true → AllImplied c lines × AllFresh c lines
learned_in_turn [] c h = (tt, tt)
learned_in_turn (l ∷ lines) c h = grind (arith, nat_tests, learned_in_turn lines (with_line c l), by_implied c l, rup_by c l)

pub learned_exactly : (c : CheckerValue) (lines : List ProofLineValue) → (AllImplied c lines × AllFresh c lines) ↔ (are_learned c (map Addition lines) ≡ true)
learned_exactly c lines = (λ both. are_learned_by lines c both.0 both.1, λ h. learned_in_turn lines c h)
