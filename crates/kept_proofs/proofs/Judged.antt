-- What two judged files say of a candidate, and of its formula.
use Rattle.std.proofs.Common.{◌≡◌, ℕ, Bool, true, false, List, Result, Ok, Err, Option, refl, sym, ◌∙◌, subst, IfOk, bytes_eq}
use Rattle.outer_ports.specs.{declared.{part.Part.Part, proof_name.FileKind.TheVariants.{Cnf, Lrat}}, Files.Files}
use Rattle.cnf_formula.specs.Formulas.{FormulaValue}
use Rattle.lrat_text.specs.Printing.{cnf_text}
use Rattle.candidate_order.specs.{declared.candidate.Candidate.Candidate, Frontiers.QuestionValue}
use Rattle.candidate_formula.specs.{Formulas.formula_for, Files.{file_of, HasRefutation}}
use Rattle.proof_audit.{specs.{declared.{fault.AuditFault.AuditFault, verdict.FileVerdict.{FileVerdict, TheVariants.Stands}}, Files.file_verdict, Proving.is_refutation}, proofs.Standing.standing_refute}
use Rattle.proof_audit.specs.declared.fault.AuditFault.TheVariants as audit
use Rattle.kept_proofs.specs.inner.Judged.{stands}

-- ---- one verdict

pub stood : (v : Result FileVerdict AuditFault) → stands v ≡ Ok true → v ≡ Ok Stands
stood (Ok Stands) e = refl
stood (Ok _) e = absurd (cc)
stood (Err audit.ShelfFailed) e = absurd (cc)
stood (Err audit.OutOfMemory) e = absurd (cc)

-- what is said of a file, by the verdict that a judgement gave
module _ (test : List ℕ → Bool) (file : Option (List ℕ)) where
  verdict_stands : (v : Result FileVerdict AuditFault) → IfOk v (λ verdict. verdict ≡ file_verdict test file) → stands v ≡ Ok true → file_verdict test file ≡ Stands
  verdict_stands v exact e = sym (subst (λ r. IfOk r (λ verdict. verdict ≡ file_verdict test file)) (stood v e) exact)

  verdict_falls : (v : Result FileVerdict AuditFault) → IfOk v (λ verdict. verdict ≡ file_verdict test file) → stands v ≡ Ok false → file_verdict test file ≡ Stands → ⊥
  verdict_falls (Ok verdict) said e is = let no : stands (Ok Stands) ≡ Ok false = subst (λ w. stands (Ok w) ≡ Ok false) (said ∙ is) e in absurd (cc)
  verdict_falls (Err audit.ShelfFailed) said e is = absurd (cc)
  verdict_falls (Err audit.OutOfMemory) said e is = absurd (cc)

-- ---- both files of a candidate

module _ (part : Part) (q : QuestionValue) (files : Files) (x : Candidate) {f : FormulaValue} (same : f ≡ formula_for q x) where
  abbrev text_verdict : FormulaValue → FileVerdict
  text_verdict g = file_verdict (λ bytes. bytes_eq bytes (cnf_text g)) (files (file_of Cnf part x))

  abbrev proof_verdict : FormulaValue → FileVerdict
  proof_verdict g = file_verdict (is_refutation g) (files (file_of Lrat part x))

  abbrev pub TextSaid : Result FileVerdict AuditFault → Type 0
  TextSaid v = IfOk v (λ verdict. verdict ≡ text_verdict f)

  abbrev pub ProofSaid : Result FileVerdict AuditFault → Type 0
  ProofSaid v = IfOk v (λ verdict. verdict ≡ proof_verdict f)

  pub has_both : (v w : Result FileVerdict AuditFault) → TextSaid v → ProofSaid w → stands v ≡ Ok true → stands w ≡ Ok true → HasRefutation part q files x
  has_both v w text proof e d = (standing_refute part q files x).0 (
    subst (λ g. text_verdict g ≡ Stands) same (verdict_stands (λ bytes. bytes_eq bytes (cnf_text f)) (files (file_of Cnf part x)) v text e),
    subst (λ g. proof_verdict g ≡ Stands) same (verdict_stands (is_refutation f) (files (file_of Lrat part x)) w proof d),
  )

  pub no_text : (v : Result FileVerdict AuditFault) → TextSaid v → stands v ≡ Ok false → HasRefutation part q files x → ⊥
  no_text v text e has =
      verdict_falls (λ bytes. bytes_eq bytes (cnf_text f)) (files (file_of Cnf part x)) v text e (subst (λ g. text_verdict g ≡ Stands) (sym same) ((standing_refute part q files x).1 has).0)

  pub no_proof : (w : Result FileVerdict AuditFault) → ProofSaid w → stands w ≡ Ok false → HasRefutation part q files x → ⊥
  no_proof w proof e has = verdict_falls (is_refutation f) (files (file_of Lrat part x)) w proof e (subst (λ g. proof_verdict g ≡ Stands) (sym same) ((standing_refute part q files x).1 has).1)
