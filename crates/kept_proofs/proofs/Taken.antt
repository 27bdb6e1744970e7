-- What is taken up, by the files of a candidate.
use Rattle.std.proofs.Common.{◌≡◌, ◌≢◌, [], Some, ap, ◌∙◌, inl, inr, subst}
use Rattle.outer_ports.specs.{declared.{part.Part.Part, proof_name.{FileKind.TheVariants.{Cnf, Lrat, Partial}, ProofName.ProofName}}, Files.Files, Shelf.{FilesStay, OthersStay}}
use Rattle.cnf_formula.specs.Formulas.{FormulaValue}
use Rattle.candidate_order.specs.{declared.candidate.Candidate.Candidate, Frontiers.QuestionValue}
use Rattle.candidate_formula.specs.Files.{file_of, HasRefutation, RefutedFiles}
use Rattle.candidate_solver.{specs.Trying.BeginsOwn, proofs.Begun.{begins_one, none_begun}}
use Rattle.proof_audit.{specs.Kept.BothStay, proofs.Keeping.still_refuted}

-- where no file changes, none was begun
pub begins_none : (f : FormulaValue) (part : Part) (x : Candidate) (before now : Files) → FilesStay before now → BeginsOwn f part x before now
begins_none f part x before now stay = record { each = λ name. inl (stay name) }

partial_apart : Partial ≢ Cnf
partial_apart e = absurd (cc)

module _ (part : Part) (x : Candidate) {before middle now : Files} (stay : FilesStay before middle) {name : ProofName} (is : name ≡ file_of Partial part x) (others : OthersStay name middle now) (begun : now name ≡ Some []) where
  others_from : OthersStay (file_of Partial part x) before now
  others_from other apart = others other (λ e. apart (e ∙ is)) ∙ stay other

  emptied : now (file_of Partial part x) ≡ Some []
  emptied = subst (λ n. now n ≡ Some []) is begun

  pub begins_log : (f : FormulaValue) → BeginsOwn f part x before now
  begins_log f = begins_one f Partial part x before now others_from (inr (none_begun f Partial part x now partial_apart emptied))

  pub both : BothStay part x before now
  both = record {
    formula = others_from (file_of Cnf part x) (λ e. let k : Cnf ≡ Partial = ap (λ (n : ProofName). n.kind) e in absurd (cc));
    proof = others_from (file_of Lrat part x) (λ e. let k : Lrat ≡ Partial = ap (λ (n : ProofName). n.kind) e in absurd (cc));
  }

  pub refuted_files : (q : QuestionValue) → HasRefutation part q before x → RefutedFiles part q now x
  refuted_files q has = record { refutation = still_refuted part q before now x both has; no_log = emptied }
