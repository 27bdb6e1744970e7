-- The files of a candidate prove the same where they stay, and of another question whose formula it has.
use Rattle.std.proofs.Common.{arith, ◌≡◌, ℕ, ap, ◌∙◌, Some}
use Rattle.outer_ports.specs.{declared.{part.Part.Part, proof_name.FileKind.{FileKind, TheVariants.{Cnf, Lrat, Partial}}}, Files.Files}
use Rattle.candidate_order.specs.{declared.candidate.Candidate.Candidate, Frontiers.QuestionValue}
use Rattle.lrat_text.specs.Printing.{cnf_text}
use Rattle.candidate_formula.specs.{Files.{file_of, SolvedFiles, RefutedFiles, UnknownFiles}, Formulas.formula_for}

module _ (part : Part) (p q : QuestionValue) (before after : Files) (x : Candidate) (same : formula_for p x ≡ formula_for q x) (stay : (kind : FileKind) → after (file_of kind part x) ≡ before (file_of kind part x)) where
  formula_alike : before (file_of Cnf part x) ≡ Some (cnf_text (formula_for p x)) → after (file_of Cnf part x) ≡ Some (cnf_text (formula_for q x))
  formula_alike has = stay Cnf ∙ has ∙ ap (λ f. Some (cnf_text f)) same

  pub solved_alike : SolvedFiles part p before x → SolvedFiles part q after x
  solved_alike has = record { formula = formula_alike has.formula; no_proof = stay Lrat ∙ has.no_proof; no_log = stay Partial ∙ has.no_log }

  pub refuted_alike : RefutedFiles part p before x → RefutedFiles part q after x
  refuted_alike has = grind (arith, formula_alike)

  pub unknown_alike : (conflicts : ℕ) → p.limits ≡ q.limits → UnknownFiles part p before (record { candidate = x; conflicts = conflicts }) → UnknownFiles part q after (record { candidate = x; conflicts = conflicts })
  unknown_alike conflicts limits has = grind (arith, formula_alike)
