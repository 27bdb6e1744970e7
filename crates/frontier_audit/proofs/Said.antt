-- What is said of the files of a candidate, and what it denies.
use Rattle.std.proofs.Common.{arith, ◌≡◌, ℕ, Bool, true, false, List, Option, None, Some, refl, sym, ap, ◌∙◌, subst, not, ◌==◌, IsTrue, AllPairs}
use Rattle.outer_ports.specs.{declared.{part.Part.Part, proof_name.{FileKind.TheVariants.{Cnf, Lrat, Partial}, ProofName.ProofName}}, Files.{Files, kind_number}, Port.Tells, Shelf.FilesStay}
use Rattle.cnf_formula.specs.Formulas.{FormulaValue}
use Rattle.candidate_order.{specs.{declared.candidate.Candidate.Candidate, Costs.Before, Frontiers.{QuestionValue, UnknownValue}}, proofs.Orders.Before-irrefl}
use Rattle.candidate_formula.specs.{Formulas.formula_for, Files.{candidate_of, file_of}}
use Rattle.proof_audit.specs.{declared.verdict.FileVerdict.FileVerdict, Proving.{is_refutation, is_spent_log}, Files.{file_verdict, IsFileVerdict}}
use Rattle.frontier_audit.specs.{declared.verdict.Reason.{Reason, TheVariants.{ProofRefused, CnfDiffers, PartialRefused}}, Denials.Denial, Candidates.same_candidate, Auditing.{refutation_checked, unknown_checked}}
use Rattle.frontier_audit.specs.{Beside.{denial_of, AnswersBeside}, inner.Steps.{judged, refuted_checked}}
use Rattle.frontier_audit.proofs.{Beside.{alone, by_verdicts, is_text_of, text_checked, proof_checked}, Tried.{same_is, same_itself}, Merging.{LooksAt, Separate, goes_on, later, looks_then, reads_as, since, stops}}

-- ---- one file

-- the verdict on a file that a call gave is exact where the shelf tells, and else that on some file
pub file_answers : (tells : Bool) (shelf : Files) (name : ProofName) (test : List ℕ → Bool) (v : FileVerdict) (refused : Reason) (x : Candidate) {d : Option Denial} → d ≡ denial_of (judged v refused x) → (IsTrue tells → v ≡ file_verdict test (shelf name)) → IsFileVerdict test v
    → AnswersBeside tells shelf (λ files. judged (file_verdict test (files name)) refused x) d
file_answers true shelf name test v refused x is exact some = record { files = shelf; told = λ t n. refl; is = is ∙ ap (λ w. denial_of (judged w refused x)) (exact refl) }
file_answers false shelf name test v refused x is exact some = record { files = λ n. some.file; told = λ t. absurd (cc); is = is ∙ ap (λ w. denial_of (judged w refused x)) some.is }

looks_file : (own : ProofName → Bool) (name : ProofName) (test : List ℕ → Bool) (refused : Reason) (x : Candidate) → own name ≡ true → LooksAt own (λ files. judged (file_verdict test (files name)) refused x)
looks_file own name test refused x has f g same = ap (λ file. judged (file_verdict test file) refused x) (same name has)

-- ---- a refuted candidate

-- the names of formulas
abbrev of_text : ProofName → Bool
of_text name = kind_number name.kind == kind_number Cnf

module _ (part : Part) (q : QuestionValue) (x : Candidate) {f : FormulaValue} (is : f ≡ formula_for q x) {one : ProofName} (at : one ≡ file_of Cnf part x) {told : Bool} {shelf : Files} {a : Option Denial}
    (text : AnswersBeside told shelf (λ files. judged (file_verdict (is_text_of f) (files one)) CnfDiffers x) a) where
  of_candidate : AnswersBeside told shelf (text_checked part q x) a
  of_candidate = grind (arith, is_text_of)

  pub text_denies : (d : Denial) → a ≡ Some d → AnswersBeside told shelf (λ files. refutation_checked part q files x) (Some d)
  text_denies d e = reads_as (by_verdicts part q x) (stops told shelf (text_checked part q x) (proof_checked part q x) d (subst (AnswersBeside told shelf (text_checked part q x)) e of_candidate))

  pub proof_decides : a ≡ None → {tells : Bool} → Tells told tells → {between : Files} → (IsTrue tells → FilesStay shelf between) → {two : ProofName} → two ≡ file_of Lrat part x → {d : Option Denial}
      → AnswersBeside tells between (λ files. judged (file_verdict (is_refutation f) (files two)) ProofRefused x) d → AnswersBeside tells shelf (λ files. refutation_checked part q files x) d
  proof_decides e {tells} still {between} stay {two} there {d} answer =
      let proof = subst (λ g. AnswersBeside tells between (λ files. judged (file_verdict (is_refutation g) (files (file_of Lrat part x))) ProofRefused x) d) is
      (subst (λ n. AnswersBeside tells between (λ files. judged (file_verdict (is_refutation f) (files n)) ProofRefused x) d) there answer) in
      reads_as (by_verdicts part q x)
      (goes_on tells shelf (text_checked part q x) (proof_checked part q x) of_text d (looks_file of_text (file_of Cnf part x) _ CnfDiffers x refl) (looks_file (λ n. not (of_text n)) (file_of Lrat part x) _ ProofRefused x refl)
      (later told tells shelf (text_checked part q x) None still (subst (AnswersBeside told shelf (text_checked part q x)) e of_candidate)) (since tells shelf between (proof_checked part q x) d stay proof))

-- ---- an unknown candidate

by_log : (part : Part) (q : QuestionValue) (u : UnknownValue) (files : Files) → unknown_checked part q files u ≡ judged (file_verdict (is_spent_log (formula_for q u.candidate) u.conflicts) (files (file_of Partial part u.candidate))) PartialRefused u.candidate
by_log part q u files = alone (is_spent_log (formula_for q u.candidate) u.conflicts) PartialRefused u.candidate (files (file_of Partial part u.candidate))

pub log_decides : {tells : Bool} {shelf : Files} (part : Part) (q : QuestionValue) (u : UnknownValue) {x : Candidate} {n : ℕ} {f : FormulaValue} {name : ProofName} {d : Option Denial} → x ≡ u.candidate → n ≡ u.conflicts → f ≡ formula_for q x → name ≡ file_of Partial part x
    → AnswersBeside tells shelf (λ files. judged (file_verdict (is_spent_log f n) (files name)) PartialRefused x) d → AnswersBeside tells shelf (λ files. unknown_checked part q files u) d
log_decides part q u same count is at answer = reads_as (by_log part q u) (rw (at, is, same, count) at answer)

-- ---- which names the checks look at

pub looks_refuted : (own : ProofName → Bool) (part : Part) (q : QuestionValue) (x : Candidate) → own (file_of Cnf part x) ≡ true → own (file_of Lrat part x) ≡ true → LooksAt own (λ files. refuted_checked part q files x)
looks_refuted own part q x cnf lrat f g same = grind (arith, by_verdicts, looks_then, text_checked, proof_checked, looks_file)

pub looks_unknown : (own : ProofName → Bool) (part : Part) (q : QuestionValue) (u : UnknownValue) → own (file_of Partial part u.candidate) ≡ true → LooksAt own (λ files. unknown_checked part q files u)
looks_unknown own part q u log f g same = by_log part q u f ∙ looks_file own (file_of Partial part u.candidate) _ PartialRefused u.candidate log f g same ∙ sym (by_log part q u g)

-- the names of a candidate
abbrev is_of : Candidate → ProofName → Bool
is_of x name = same_candidate (candidate_of name) x

other : (x y : Candidate) → Before x y → not (same_candidate y x) ≡ true
other x y b = grind (arith, Before-irrefl, same_is)

pub separate_refuted : (part : Part) (q : QuestionValue) (xs : List Candidate) → AllPairs Before xs → Separate (refuted_checked part q) xs
separate_refuted part q xs ascend = record {
  own = is_of;
  looks = λ x. looks_refuted (is_of x) part q x (same_itself x) (same_itself x);
  apart = λ i j d below low. let later = other _ _ (ascend i j d below low) in looks_refuted _ part q _ later later;
}

pub separate_unknown : (part : Part) (q : QuestionValue) (us : List UnknownValue) → AllPairs (λ u v. Before u.candidate v.candidate) us → Separate (unknown_checked part q) us
separate_unknown part q us ascend = record {
  own = λ u. is_of u.candidate;
  looks = λ u. looks_unknown (is_of u.candidate) part q u (same_itself u.candidate);
  apart = λ i j d below low. looks_unknown _ part q _ (other _ _ (ascend i j d below low));
}
