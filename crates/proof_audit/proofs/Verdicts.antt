-- Each verdict on a file is that on some file.
use Rattle.std.proofs.{Common.{arith, ◌≡◌, ℕ, Bool, false, List, None, Some, Result, Ok, Err, refl, sym, ap, IfOk, if◌then◌else◌, nat_le, bytes_eq}, lemmas.Bool.and_parts}
use Rattle.cnf_formula.specs.Formulas.{FormulaValue}
use Rattle.lrat_text.specs.Printing.{cnf_text}
use Rattle.proof_audit.specs.{declared.{fault.AuditFault.AuditFault, verdict.FileVerdict.{FileVerdict, TheVariants.{Missing, Refused, Stands}}}, Files.{short_and, SomePass, IsFileVerdict}}

-- where some bytes pass that stand, and some fail
verdict_some : (test : List ℕ → Bool) (bad : List ℕ) (v : FileVerdict) → test bad ≡ false → (v ≡ Stands → SomePass test) → IsFileVerdict test v
verdict_some test bad Missing fails some = record { file = None; is = refl }
verdict_some test bad Refused fails some = record { file = Some bad; is = sym (ap (λ b. if b then Stands else Refused) fails) }
verdict_some test bad Stands fails some = let passing = some refl in record { file = Some passing.bytes; is = sym (ap (λ b. if b then Stands else Refused) passing.pass) }

pub of_result : (test : List ℕ → Bool) (bad : List ℕ) (result : Result FileVerdict AuditFault) → test bad ≡ false → (result ≡ Ok Stands → SomePass test) → IfOk result (IsFileVerdict test)
of_result test bad (Ok v) fails some = verdict_some test bad v fails (λ e. some (ap (λ x. Ok x) e))
of_result test bad (Err fault) fails some = tt

-- bytes that pass by a text pass by the formula whose text it is
pub some_text : (f : FormulaValue) (limit : ℕ) (text : List ℕ) (passes : List ℕ → Bool) → text ≡ cnf_text f → ((bytes : List ℕ) → passes bytes ≡ bytes_eq bytes text) → SomePass (short_and limit passes) → SomePass (λ bytes. bytes_eq bytes (cnf_text f))
some_text f limit text passes is same some = grind (arith, and_parts, nat_le, bytes_eq)
