-- What is said of a whole file of proof lines.
use Rattle.std.proofs.{Common.{arith, ◌≡◌, ◌∙◌, refl, sym, ap, ℕ, Bool, List, length, Option, None, Some, Result, Ok, Err, ◌&&◌, ◌==◌, IfOk, nat_le, if◌then◌else◌}, lemmas.Bool.and_parts}
use Rattle.cnf_formula.specs.{Formulas.{FormulaValue, Satisfiable}, declared.line.LratLine.LratLine}
use Rattle.proof_rules.{specs.Held.start_of, proofs.Calm.never_refuted}
use Rattle.lrat_text.specs.{declared.fault.LratTextFault.LratTextFault, Reading.new_reader}
use Rattle.candidate_formula.{specs.{Lines.lines_of_text, ReadLines.lines_said, Files.longest_proof}, proofs.Said.{plain, said_plain}}
use Rattle.proof_audit.specs.{declared.{fault.AuditFault.AuditFault, verdict.FileVerdict.{FileVerdict, TheVariants.{Stands, Refused}}}, Proving.{is_refutation, is_spent_log}, Tested.{do_refute, do_spend}}
use Rattle.proof_audit.specs.{Files.{file_verdict, short_and, SomePass, HasSpentLog}, inner.{Lines.{left_says, lines_pass}, Turns.{checker_after, is_refuted, are_taken}}}
use Rattle.proof_audit.proofs.{Proved.{refutes_by, spent_by}, Turns.{same_refuting, same_learning}}

-- ---- tests that agree

module _ (test other : List ℕ → Bool) (same : (bytes : List ℕ) → test bytes ≡ other bytes) where
  same_verdict : (file : Option (List ℕ)) → file_verdict test file ≡ file_verdict other file
  same_verdict None = refl
  same_verdict (Some bytes) = ap (λ b. if b then Stands else Refused) (same bytes)

  pub verdict_as : (file : Option (List ℕ)) (result : Result FileVerdict AuditFault) → IfOk result (λ v. v ≡ file_verdict test file) → IfOk result (λ v. v ≡ file_verdict other file)
  verdict_as file (Ok v) is = is ∙ same_verdict file
  verdict_as file (Err fault) is = tt

  pub some_as : SomePass test → SomePass other
  some_as some = record { bytes = some.bytes; pass = sym (same some.bytes) ∙ some.pass }

-- ---- refutations

module _ (f : FormulaValue) (passes : List ℕ → Bool) (test : List LratLine → Bool) (by_lines : (bytes : List ℕ) → passes bytes ≡ lines_pass test (left_says new_reader bytes)) where
  pub refutation_is : ((lines : List LratLine) → test lines ≡ is_refuted (checker_after (start_of f) lines)) → (bytes : List ℕ) → short_and longest_proof passes bytes ≡ is_refutation f bytes
  refutation_is refutes bytes = ap (λ b. nat_le (length bytes) longest_proof && b) (by_lines bytes ∙ (go (lines_of_text bytes) ∙ ap (do_refute f) (said_plain bytes)))
    where
      go : (said : Result (List LratLine) LratTextFault) → lines_pass test said ≡ do_refute f (plain said)
      go (Ok lines) = refutes lines ∙ same_refuting (start_of f) lines
      go (Err fault) = refl

  pub log_is : (n : ℕ) → ((lines : List LratLine) → test lines ≡ (length lines == n && are_taken (start_of f) lines)) → (bytes : List ℕ) → short_and longest_proof passes bytes ≡ is_spent_log f n bytes
  log_is n learned bytes = ap (λ b. nat_le (length bytes) longest_proof && b) (by_lines bytes ∙ (go (lines_of_text bytes) ∙ ap (do_spend f n) (said_plain bytes)))
    where
      go : (said : Result (List LratLine) LratTextFault) → lines_pass test said ≡ do_spend f n (plain said)
      go (Ok lines) = learned lines ∙ ap (λ b. length lines == n && b) (same_learning (start_of f) lines)
      go (Err fault) = refl

-- bytes that refute a formula leave it no satisfying assignment
pub never_satisfied : (f : FormulaValue) → SomePass (is_refutation f) → Satisfiable f → ⊥
never_satisfied f some s = grind (arith, and_parts, nat_le, refutes_by, never_refuted)

-- bytes that are a log give one
pub has_log : (f : FormulaValue) (n : ℕ) → SomePass (is_spent_log f n) → HasSpentLog f n
has_log f n some =
    let parts = and_parts (nat_le (length some.bytes) longest_proof) (do_spend f n (lines_said some.bytes)) some.pass in
    let by = spent_by f n (lines_said some.bytes) parts.1 in
    ∣ (by.added, by.spent) ∣₁
