-- Files that are as before or begun, from call to call.
use Rattle.std.proofs.Common.{◌≡◌, refl, ◌∙◌, subst, inl, inr, ⊎_elim}
use Rattle.outer_ports.specs.{declared.proof_name.ProofName.ProofName, Files.Files}
use Rattle.cnf_formula.specs.Formulas.{FormulaValue}
use Rattle.candidate_formula.specs.Begun.{IsBegun, BegunOnly}

pub begun_refl : {may : ProofName → Type 0} {formula : ProofName → FormulaValue} {files : Files} → BegunOnly may formula files files
begun_refl = record { each = λ name. inl refl }

-- where more files may be changed, and belong to the same formulas
pub begun_weaker : {may more : ProofName → Type 0} {f g : ProofName → FormulaValue} {before after : Files} → ((name : ProofName) → may name → more name × (f name ≡ g name)) → BegunOnly may f before after → BegunOnly more g before after
begun_weaker {after = after} wider begun = record {
  each = λ name. ⊎_elim
      (λ same. inl same)
      (λ i. inr ((wider name i.0).0, subst (λ formula. IsBegun formula after name) (wider name i.0).1 i.1))
      (begun.each name);
}

-- a file that was begun, and stays
still_begun : {f : FormulaValue} {before after : Files} {name : ProofName} → after name ≡ before name → IsBegun f before name → IsBegun f after name
still_begun same begun = record { bytes = begun.bytes; rest = begun.rest; stands = same ∙ begun.stands; begins = begun.begins }

pub begun_trans : {may : ProofName → Type 0} {formula : ProofName → FormulaValue} {a b c : Files} → BegunOnly may formula a b → BegunOnly may formula b c → BegunOnly may formula a c
begun_trans first second = record {
  each = λ name. ⊎_elim
      (λ same. ⊎_elim
      (λ e. inl (same ∙ e))
      (λ i. inr (i.0, still_begun same i.1))
      (first.each name))
      (λ i. inr i)
      (second.each name);
}
