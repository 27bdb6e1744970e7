-- What is said of a text that was read or refused, and of the files where there is no answer.
use Rattle.std.proofs.Common.{◌≡◌, ℕ, List, Result, Ok, Err, ap, subst, OnErr}
use Rattle.text_lines.specs.Check.{◌>>=◌}
use Rattle.outer_ports.specs.{Files.Files, Shelf.FilesStay}
use Rattle.report_form.specs.Reports.{ReportValue}
use Rattle.run_rules.{specs.{declared.answer.Answer.Answer, Answers.{IsAnswerAlone, LeavesOff}, Refusals.Refusal, Tasks.{Task, read_report}}, proofs.Answered.{nothing_left_off, refused_alone, refused_behind}}
use Rattle.given_reports.specs.{Read.IsReadAs, declared.report_text.ReportText.{ReportText, TheVariants.{Spelled, Refused}}}

pub left_alone : {T E : Type 0} (last : Result T E) (due : Result Task Refusal) (before after : Files) → FilesStay before after → OnErr last (LeavesOff due before after)
left_alone (Ok x) due before after stay = tt
left_alone (Err e) due before after stay = nothing_left_off due before after stay

module _ (bytes : List ℕ) (due : ReportValue → Result Task Refusal) (told : ReportText) (read : IsReadAs (read_report bytes) told) where
  pub text_spelled : (r : ReportValue) → told ≡ Spelled r → read_report bytes >>= due ≡ due r
  text_spelled r is = ap (λ x. x >>= due) (subst (IsReadAs (read_report bytes)) is read)

  pub text_refused : (answer : Answer) → told ≡ Refused answer → IsAnswerAlone (read_report bytes >>= due) answer.status answer.text.items
  text_refused answer is = refused_alone (read_report bytes >>= due) answer (refused_behind (read_report bytes) due answer (subst (IsReadAs (read_report bytes)) is read))
