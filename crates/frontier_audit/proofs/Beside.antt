-- The checks of a candidate's files pass exactly where the files are what they have to be.
use Rattle.std.proofs.{lemmas.{Bool.{Decides.nat_tests, and_parts, leb-true, le-leb, and_from}, Grind.common_steps}, Common.{arith, ◌≡◌, ℕ, Bool, List, length, Ok, Option, sym, ◌∙◌, not, nat_le, bytes_eq, if◌then◌else◌}}
use Rattle.text_lines.{specs.Check.{◌>>=◌, refuse, need}, proofs.Checks.need_ok}
use Rattle.outer_ports.specs.{declared.{part.Part.Part, proof_name.FileKind.TheVariants.{Cnf, Lrat, Partial}}, Files.Files}
use Rattle.cnf_formula.specs.Formulas.{FormulaValue}
use Rattle.lrat_text.specs.Printing.{cnf_text}
use Rattle.candidate_order.specs.{declared.candidate.Candidate.Candidate, Frontiers.{QuestionValue, UnknownValue}}
use Rattle.candidate_formula.{specs.{ReadLines.lines_said, Formulas.formula_for, Files.{file_of, longest_proof, HasRefutation, HasLog}}, proofs.Spelled.{text_spells, text_read}}
use Rattle.proof_audit.specs.{declared.verdict.FileVerdict.{FileVerdict, TheVariants.{Refused, Stands}}, Files.file_verdict, Proving.{is_refutation, is_spent_log}, Tested.do_spend}
use Rattle.proof_audit.proofs.{Standing.standing_refute, Proved.{spent_by, by_spending}}
use Rattle.frontier_audit.specs.{declared.verdict.Reason.{Reason, TheVariants.{ProofMissing, ProofRefused, CnfDiffers, PartialRefused}}, Denials.{Denial, Checked}, Auditing.{refutation_checked, unknown_checked}, inner.Steps.judged}
use Rattle.frontier_audit.proofs.Passing.{then_ok, ok_then, refused_not}

-- ---- the check of a file is what the verdict on it says

module _ (test : List ℕ → Bool) (refused : Reason) (x : Candidate) where
  tested : (b : Bool) → refuse (not b) (refused, x) ≡ judged (if b then Stands else Refused) refused x
  tested b = grind arith

  pub alone : (file : Option (List ℕ)) → (need file (ProofMissing, x) >>= (λ bytes. refuse (not (test bytes)) (refused, x))) ≡ judged (file_verdict test file) refused x
  alone file = grind (arith, tested)

stands : (v : FileVerdict) (refused : Reason) (x : Candidate) → judged v refused x ≡ Ok tt → v ≡ Stands
stands v refused x e = grind arith

-- ---- a refuted candidate

abbrev pub is_text_of : FormulaValue → List ℕ → Bool
is_text_of f bytes = bytes_eq bytes (cnf_text f)

module _ (part : Part) (q : QuestionValue) (x : Candidate) where
  abbrev pub text_checked : Files → Checked Denial
  text_checked files = judged (file_verdict (is_text_of (formula_for q x)) (files (file_of Cnf part x))) CnfDiffers x

  abbrev pub proof_checked : Files → Checked Denial
  proof_checked files = judged (file_verdict (is_refutation (formula_for q x)) (files (file_of Lrat part x))) ProofRefused x

  pub by_verdicts : (files : Files) → refutation_checked part q files x ≡ (text_checked files >>= (λ _. proof_checked files))
  by_verdicts files = grind (arith, alone, tested)

pub has_refutation : (part : Part) (q : QuestionValue) (files : Files) (x : Candidate) → refutation_checked part q files x ≡ Ok tt → HasRefutation part q files x
has_refutation part q files x e =
    let both = then_ok (text_checked part q x files) (proof_checked part q x files) (sym (by_verdicts part q x files) ∙ e) in
    (standing_refute part q files x).0 (stands _ CnfDiffers x both.0, stands _ ProofRefused x both.1)

pub passes_refutation : (part : Part) (q : QuestionValue) (files : Files) (x : Candidate) → HasRefutation part q files x → refutation_checked part q files x ≡ Ok tt
passes_refutation part q files x h = grind (arith, (standing_refute part q files x).1 h, by_verdicts, ok_then)

-- ---- an unknown candidate

pub has_log_of : (part : Part) (q : QuestionValue) (files : Files) (u : UnknownValue) → u.conflicts ≡ q.limits.conflicts → unknown_checked part q files u ≡ Ok tt → HasLog part q files u
has_log_of part q files u same e =
    let f = formula_for q u.candidate in
    let (log, there, last) = need_ok (files (file_of Partial part u.candidate)) (ProofMissing, u.candidate) (λ bytes. refuse (not (is_spent_log f u.conflicts bytes)) (PartialRefused, u.candidate)) tt e in
    let parts = and_parts (nat_le (length log) longest_proof) (do_spend f u.conflicts (lines_said log)) (refused_not (is_spent_log f u.conflicts log) (PartialRefused, u.candidate) last) in
    let by = spent_by f u.conflicts (lines_said log) parts.1 in
    record {
      lines = by.added;
      holds = record { bytes = log; found = there; short = leb-true (length log) longest_proof parts.0; reads = text_spells by.says };
      spent = record { count = by.spent.count ∙ same; learned = by.spent.learned };
    }

pub passes_log : (part : Part) (q : QuestionValue) (files : Files) (u : UnknownValue) → u.conflicts ≡ q.limits.conflicts → HasLog part q files u → unknown_checked part q files u ≡ Ok tt
passes_log part q files u same h = grind (arith, nat_tests, common_steps, alone, and_from, nat_le, le-leb, by_spending, text_read)
