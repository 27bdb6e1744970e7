-- How a right run ends, by what is due for its words and the bytes that its source had.
use Rattle.std.proofs.Common.{◌≡◌, ℕ, IsTrue, List, [], Result, Ok, Err, refl, sym, subst, ap, ◌∙◌}
use Rattle.command_words.specs.declared.command.JsonWhat.TheVariants as what
use Rattle.command_words.specs.{declared.{command.Command.Command, fault.WordFault.WordFault}, Words.command_of}
use Rattle.command_words.specs.declared.command.Command.TheVariants as command
use Rattle.text_lines.specs.Check.{◌>>=◌}
use Rattle.report_form.specs.{Answer.report_number, Reports.ReportValue, Spelling.report_text, Reading.report_of}
use Rattle.report_laws.{specs.Shapes.ReadsAs, proofs.Readings.only_read_as}
use Rattle.json_values.specs.{Answer.json_number, Json.printed}
use Rattle.json_rules.{proofs.ReadJson.readers_alike, specs.ReportForm.report as report_form}
use Rattle.run_rules.specs.{declared.status.Status.TheVariants.{BadJson, BadReport}, Commands.{Ask, reads_source}, Refusals.{Refusal, refused_as}, Tasks.{Task, Write, Reader, due, due_by, json_programs_in, report_by, task_by, words_asked}}
use Rattle.run_rules.specs.Steps.{audit_in, degrade_in, programs_in, replay_in, whole_text}
use Rattle.sccl_run.{specs.{inner.Answering.due_for, Laws.IsRightRun, Rows.all_tell, TopCall.{CountValue, IsEnd, RunValue}}, proofs.Dues.{asks, due_command, due_refused}}

-- what is not read decides nothing
same_for : (c : Command) (bytes came : List ℕ) → (IsTrue (reads_source (Ok c)) → came ≡ bytes) → due_for c came ≡ due_for c bytes
same_for (command.Family kind size) bytes came are = refl
same_for (command.Trial n) bytes came are = refl
same_for (command.Json what.Topology point) bytes came are = ap (due_for (command.Json what.Topology point)) (are refl)
same_for c bytes came are = ap (due_for c) (are refl)

same_due : (words : List (List ℕ)) (bytes came : List ℕ) → (Ask reads_source words → came ≡ bytes) → due words came ≡ due words bytes
same_due words bytes came are = by_words (command_of words) refl
  where
    by_words : (x : Result Command WordFault) → command_of words ≡ x → due words came ≡ due words bytes
    by_words (Ok c) is = due_command words came c is ∙ same_for c bytes came (λ reads. are (asks reads_source words c is reads)) ∙ sym (due_command words bytes c is)
    by_words (Err fault) is = due_refused words came fault is ∙ sym (due_refused words bytes fault is)

-- what is due for whoever reads reports by their spelling is what is due by the checks
pub same_reading : (read : Reader) → ((text : List ℕ) → ReadsAs text (read text)) → (words : List (List ℕ)) (bytes : List ℕ) → due_by read words bytes ≡ due words bytes
unfolding due
same_reading read reads words bytes = by_words (command_of words)
  where
    same : (text : List ℕ) → read text ≡ report_of text
    same text = sym (only_read_as text (read text) (reads text))

    behind : (f : ReportValue → Result Task Refusal) → (report_by read bytes >>= f) ≡ (report_by report_of bytes >>= f)
    behind f = ap (λ r. refused_as BadReport report_number r >>= f) (same bytes)

    by_task : (c : Command) → task_by read c bytes ≡ task_by report_of c bytes
    by_task command.Check = behind audit_in
    by_task (command.Replay number word order) = behind (λ r. replay_in r (record { point = number; word = word }) order)
    by_task (command.Programs number word) = behind (λ r. programs_in r (record { point = number; word = word }))
    by_task (command.Degrade group group_word width width_word) = behind (λ r. degrade_in r group group_word width width_word)
    by_task (command.Json what.Report point) = behind (λ r. Ok (Write (printed ((report_form r.topology.names).json r))))
    by_task (command.Json what.Programs point) = behind (λ r. json_programs_in r point)
    by_task (command.Unjson what.Report) = ap (λ read. refused_as BadJson json_number read >>= (λ r. Ok (Write (report_text r)))) (readers_alike (report_form []) read report_of same bytes)
    by_task _ = refl

    by_words : (x : Result Command WordFault) → (words_asked x >>= (λ c. whole_text (reads_source (Ok c)) bytes >>= (λ _. task_by read c bytes))) ≡ (words_asked x >>= (λ c. whole_text (reads_source (Ok c)) bytes >>= (λ _. task_by report_of c bytes)))
    by_words (Ok c) = ap (λ t. whole_text (reads_source (Ok c)) bytes >>= (λ _. t)) (by_task c)
    by_words (Err fault) = refl

pub ended : (x : RunValue) (a b c : CountValue) (d : Result Task Refusal) → IsRightRun x a b c → due x.words x.bytes ≡ d → IsEnd d x all_tell
ended x a b c d run is = subst (λ y. IsEnd y x all_tell) (same_reading run.read run.reads x.words run.came ∙ (same_due x.words x.bytes run.came (run.are refl) ∙ is)) run.end
