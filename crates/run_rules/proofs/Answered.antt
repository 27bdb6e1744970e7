-- What answers what is due, step by step.
use Rattle.std.proofs.Common.{◌≡◌, ℕ, inl, List, Result, Ok, Err, refl, sym, subst, ap}
use Rattle.text_lines.specs.Check.{◌>>=◌}
use Rattle.outer_ports.specs.{declared.proof_name.FileKind.TheVariants.{Cnf, Lrat}, Files.Files, Shelf.FilesStay}
use Rattle.candidate_formula.specs.Files.{file_of}
use Rattle.run_rules.specs.{declared.{status.Status.{Status, TheVariants.Done}, answer.Answer.Answer}, Refusals.{Refusal, refusal_line}, Said.Says}
use Rattle.run_rules.specs.{Tasks.{Task, Write, Synthesise, Audit, Try, Bound, Order, Degrade}, Answers.{IsAnswer, IsAnswerAlone, LeavesOff}, Read.IsRefused}

-- what is refused first is refused in all
pub refused_behind : {A B : Type 0} (x : Result A Refusal) (f : A → Result B Refusal) (answer : Answer) → IsRefused x answer → IsRefused (x >>= f) answer
refused_behind x f answer refused = record { refusal = refused.refusal; is = ap (λ y. y >>= f) refused.is; says = refused.says }

-- ---- beside any files that stay

-- the line of what is refused
pub refused_answers : (due : Result Task Refusal) (r : Refusal) (status : Status) (text : List ℕ) → due ≡ Err r → Says r.status (refusal_line r) status text → IsAnswerAlone due status text
refused_answers due r status text is says = λ files stay. subst (λ d. IsAnswer d files status text) (sym is) (record { says = says; stay = stay })

-- the answer of a refusal
pub refused_alone : (due : Result Task Refusal) (answer : Answer) → IsRefused due answer → IsAnswerAlone due answer.status answer.text.items
refused_alone due answer refused = refused_answers due refused.refusal answer.status answer.text.items refused.is refused.says

-- a text that words and bytes decide
pub written : (words text : List ℕ) → text ≡ words → IsAnswerAlone (Ok (Write words)) Done text
written words text e = λ files stay. record { says = record { status = refl; text = e }; stay = stay }

pub written_as : (due : Result Task Refusal) (words text : List ℕ) → due ≡ Ok (Write words) → text ≡ words → IsAnswerAlone due Done text
written_as due words text is e = λ files stay. subst (λ d. IsAnswer d files Done text) (sym is) (written words text e files stay)

-- ---- what is left where no file changed

pub nothing_left_off : (due : Result Task Refusal) (before after : Files) → FilesStay before after → LeavesOff due before after
nothing_left_off (Err r) before after stay = stay
nothing_left_off (Ok (Write text)) before after stay = stay
nothing_left_off (Ok (Synthesise w t kept)) before after stay = (record { each = λ name. inl (stay name) }, λ k part among x has. record { formula = stay (file_of Cnf part x); proof = stay (file_of Lrat part x) })
nothing_left_off (Ok (Audit r)) before after stay = stay
nothing_left_off (Ok (Try n)) before after stay = stay
nothing_left_off (Ok (Bound w t sets)) before after stay = record { each = λ name. inl (stay name) }
nothing_left_off (Ok (Order w t)) before after stay = stay
nothing_left_off (Ok (Degrade r group width)) before after stay = stay
