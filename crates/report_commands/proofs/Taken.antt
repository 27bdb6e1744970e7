-- What is due for a fault of a report, check by check.
use Rattle.std.proofs.Common.{◌≡◌, ℕ, Result, Ok, Err, refl, sym, ap, ◌∙◌}
use Rattle.text_lines.specs.Check.{◌>>=◌}
use Rattle.report_form.specs.Reports.{ReportValue}
use Rattle.run_rules.{specs.{declared.answer.Answer.Answer, Refusals.Refusal, Read.IsRefused, Tasks.{Task, Degrade, fault_in, searchable}, Steps.{degrade_in, whole_question}}, proofs.Answered.refused_behind}
use Rattle.report_commands.specs.inner.Faults.{refused_first}

-- one check behind another, and then what is due: in either grouping
grouped : {A B : Type 0} (x : Result (Unit {0}) Refusal) (y : Result A Refusal) (f : A → Result B Refusal) → (x >>= (λ _. y)) >>= f ≡ x >>= (λ _. y >>= f)
grouped (Ok tt) y f = refl
grouped (Err e) y f = refl

module _ (r : ReportValue) (group group_word width width_word : ℕ) where
  abbrev fault : Result (Unit {0}) Refusal
  fault = fault_in r group group_word width width_word

  abbrev search : Result (Unit {0}) Refusal
  search = searchable (whole_question r.words r.topology)

  abbrev due : Result Task Refusal
  due = degrade_in r group group_word width width_word

  -- a fault that is taken leaves the checks of the search
  pub behind_fault : fault ≡ Ok tt → refused_first r group group_word width width_word ≡ search
  behind_fault is = ap (λ x. x >>= (λ _. search)) is

  pub refused_due : (answer : Answer) → IsRefused (refused_first r group group_word width width_word) answer → IsRefused due answer
  refused_due answer refused =
      let behind = refused_behind (refused_first r group group_word width width_word) (λ _. Ok (Degrade r group width)) answer refused in
      record { refusal = behind.refusal; is = sym (grouped fault search (λ _. Ok (Degrade r group width))) ∙ behind.is; says = behind.says }

  pub can_degrade : refused_first r group group_word width width_word ≡ Ok tt → due ≡ Ok (Degrade r group width)
  can_degrade can = sym (grouped fault search (λ _. Ok (Degrade r group width))) ∙ ap (λ x. x >>= (λ _. Ok (Degrade r group width))) can
