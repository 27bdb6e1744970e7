-- The formula of a candidate of a small question is small.
use Rattle.std.proofs.{Common.{arith, ◌≡◌}, lemmas.Bool.Decides.nat_tests}
use Rattle.cnf_formula.specs.Formulas.{FormulaValue}
use Rattle.candidate_order.specs.{declared.candidate.Candidate.Candidate, Frontiers.{QuestionValue, IsWithin}}
use Rattle.candidate_formula.{specs.{Formulas.formula_for, Questions.IsSmallQuestion}, proofs.{Exact.copied_formula, Sought.candidate_is, Bounded.candidate_small}}
use Rattle.candidate_solver.proofs.{Readable.IsSmall, FewOrdered.asked_small}

pub formula_small : (q : QuestionValue) (x : Candidate) (f : FormulaValue) → f ≡ formula_for q x → IsSmallQuestion q → IsWithin q x → IsSmall f
formula_small q x f same small within = grind (arith, nat_tests, candidate_is, candidate_small, copied_formula, asked_small)
