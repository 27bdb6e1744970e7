-- What the reader's answer says of the text.
use Rattle.std.proofs.Common.{◌≡◌, ◌≢◌, ℕ, List, Result, Ok, Err, ◌⊎◌, inl, inr, ap, ◌∙◌, subst, IfOk, IfErr}
use Rattle.report_form.specs.{declared.fault.{ReportCode.{ReportCode, TheVariants.OutOfMemory}, ReportFault.ReportFault}, Reports.{ReportValue, IsReport}, Spelling.report_text, Reading.report_of, Answer.Answers, First.FailsFirstAt}
use Rattle.report_form.proofs.ReportTaken.{report_take}
use Rattle.report_laws.proofs.{ReportAgain.report_again, FirstBlamed.first_is_blamed}

pub is_found : (text : List ℕ) (r : Result ReportValue ReportFault) → Answers r (report_of text) → IfOk r (λ v. IsReport v × (text ≡ report_text v))
is_found text (Ok v) a = let t = report_take text v a in (t.valid, t.spelled)
is_found text (Err fault) a = tt

pub only_it : (text : List ℕ) (r : Result ReportValue ReportFault) → Answers r (report_of text) → (v : ReportValue) → IsReport v → text ≡ report_text v → Answers r (Ok v)
only_it text r a v ok spelled =
    let P : Result ReportValue (ReportCode × ℕ) → Type 0 = λ read. Answers r read in
    subst P (ap report_of spelled ∙ report_again v ok) a

pub blames : (text : List ℕ) (r : Result ReportValue ReportFault) → Answers r (report_of text) → IfErr r (λ fault. fault.code ≢ OutOfMemory → FailsFirstAt text fault.line)
blames text (Ok v) a = tt
blames text (Err fault) a = λ other. by_case a other
  where
    by_case : ((fault.code ≡ OutOfMemory) × (fault.line ≡ 0)) ⊎ (report_of text ≡ Err (fault.code, fault.line)) → fault.code ≢ OutOfMemory → FailsFirstAt text fault.line
    by_case (inl m) other = absurd (other m.0)
    by_case (inr e) other = first_is_blamed text fault.code fault.line e
