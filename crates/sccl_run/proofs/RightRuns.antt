-- What a right run says, drawn out.
use Rattle.std.proofs.{Common.{◌≡◌, ◌⊎◌, ◌≤◌, ◌++◌, ℕ, Bool, true, false, IsTrue, length, List, [], inl, inr, Result, Ok, Err, refl, sym, subst, ap, ◌∙◌}, lemmas.List.{take_all, Elements.All-contains}}
use Rattle.text_lines.specs.Check.{◌>>=◌, need}
use Rattle.topology_text.specs.{Answer.topology_number, Reading.topology_of, Value.NamedTopologyValue}
use Rattle.json_values.specs.{Answer.json_number, Reading.read_json, TopologyForm.topology as topology_form}
use Rattle.json_rules.specs.ReportForm.{report as report_form}
use Rattle.outer_ports.specs.Shelf.{FilesStay}
use Rattle.candidate_order.{specs.Frontiers.{RightFrontier, IsSolvable}, proofs.Frontiers.better_refuted}
use Rattle.report_form.specs.{Reading.report_of, Reports.{WordsValue, ReportValue, question_of}}
use Rattle.frontier_audit.specs.{Rights.IsRight, Parts.IsRightPart}
use Rattle.command_words.specs.{declared.{fault.WordFault.WordFault, command.{Command.Command, SearchWords.SearchWords}}, Words.command_of}
use Rattle.run_rules.specs.{declared.status.Status.Status, Commands.{Ask, IsOneOf, reads_source}, Ends.{changes_files, refusals_of}, Answers.IsAnswer, Refusals.{Refusal, refused_as}}
use Rattle.run_rules.specs.declared.status.Status.TheVariants.{Done, BadWords, BadTopology, BadJson, TooLong, SinkFailed}
use Rattle.run_rules.specs.{Tasks.{Task, Synthesise, Try, Bound, Degrade, due, fault_in, point_in, read_report, root_in, search_asked, searchable, task_of, words_asked}, Steps.{fitting, whole_question, whole_text, words_for}}
use Rattle.run_rules.proofs.Ends.{With, refused_with}
use Rattle.command_words.specs.declared.command.JsonWhat.TheVariants as what
use Rattle.command_words.specs.declared.command.Command.TheVariants as command
use Rattle.sccl_run.{specs.{Laws.{IsRightRun, WritesWith, NoneIsBetter}, TopCall.{CountValue, IsEnd, IsSilent, RunValue}, Rows.all_tell, inner.Answering.{IsWholeAnswer, files_of}}, proofs.{Calls.spoken, Ended.ended, Listed.whole_with}}

-- ---- a run that is done

pub done_not_silent : (s : Status) → s ≡ Done → IsSilent s → ⊥
done_not_silent s e = spoken s (λ f. cc) (λ f. cc) (λ f. cc)

pub done_not_cut_off : (s : Status) → s ≡ Done → s ≡ SinkFailed → ⊥
done_not_cut_off s e f = let g : Done ≡ SinkFailed = sym e ∙ f in cc

-- it is answered where its status is none of a run that is not
pub answered : (d : Result Task Refusal) (x : RunValue) → IsEnd d x all_tell → (x.status ≡ SinkFailed → ⊥) → (IsSilent x.status → ⊥) → IsWholeAnswer d x all_tell
answered d x (inl a) whole loud = by_end a.stands
  where
    by_end : ((x.status ≡ a.status) × (length a.text ≤ a.count)) ⊎ (x.status ≡ SinkFailed) → IsWholeAnswer d x all_tell
    by_end (inl (same, all)) = record { text = a.text; answer = subst (λ s. IsAnswer d (files_of x all_tell) s a.text) (sym same) a.answer; written = λ told. a.written told ∙ ap (λ text. x.before ++ text) (take_all a.count a.text all) }
    by_end (inr failed) = absurd (whole failed)
answered d x (inr halt) whole loud = absurd (loud halt.silent)

pub done_answered : (d : Result Task Refusal) (x : RunValue) → IsEnd d x all_tell → x.status ≡ Done → IsWholeAnswer d x all_tell
done_answered d x end done = answered d x end (done_not_cut_off x.status done) (done_not_silent x.status done)

-- ---- a search

-- a report that is right marks a point optimal only where no better candidate has a schedule
none_is_better : (r : ReportValue) → IsRight r → NoneIsBetter r
none_is_better r right part f p y at point optimal within better solvable =
    let frontier : RightFrontier (question_of r.words r.topology part) f = All-contains (IsRightPart r) r.frontiers (part, f) right.parts at in
    let refuted = better_refuted (question_of r.words r.topology part) f frontier p point optimal y within better in
    All-contains (λ x. IsSolvable (question_of r.words r.topology part) x → ⊥) f.refuted y frontier.refuted refuted solvable

pub written_is_right : (x : RunValue) (a b c : CountValue) → IsRightRun x a b c → (w : WordsValue) (t : NamedTopologyValue) (kept : Bool) → due x.words x.bytes ≡ Ok (Synthesise w t kept) → x.status ≡ Done → WritesWith NoneIsBetter x.before x.now
written_is_right x a b c run w t kept asked done =
    let end = done_answered (Ok (Synthesise w t kept)) x (ended x a b c (Ok (Synthesise w t kept)) run asked) done in
    record { report = end.answer.report; text = end.written refl ∙ ap (λ text. x.before ++ text) end.answer.says.text; says = none_is_better end.answer.report end.answer.right }

-- ---- the task of a command

-- where it is not refused, this holds of it
abbrev pub Holds : {A : Type 0} → (A → Type 0) → Result A Refusal → Type 0
Holds P (Ok a) = P a
Holds P (Err r) = Unit {0}

behind : {A B : Type 0} (P : B → Type 0) (x : Result A Refusal) (f : A → Result B Refusal) → ((a : A) → x ≡ Ok a → Holds P (f a)) → Holds P (x >>= f)
behind P (Ok a) f h = h a refl
behind P (Err r) f h = tt

-- a search is small enough, and has a candidate
abbrev pub IsSmall : WordsValue × NamedTopologyValue → Type 0
IsSmall s = searchable (whole_question s.0 s.1) ≡ Ok tt

small : (asked : SearchWords) (bytes : List ℕ) → Holds IsSmall (search_asked asked bytes)
small asked bytes =
    behind IsSmall (refused_as BadTopology topology_number (topology_of bytes)) _ (λ t _.
    behind IsSmall (fitting asked t) _ (λ _ _.
    behind IsSmall (root_in t.names asked.root) _ (λ node _.
    behind IsSmall (searchable (whole_question (words_for asked node) t)) _ (λ u e. e))))

-- and files are kept only for a command that changes files
abbrev pub Fits : Bool → Task → Type 0
Fits changes (Synthesise w t kept) = IsSmall (w, t) × IsTrue changes
Fits changes (Bound w t sets) = IsTrue changes
Fits changes _ = Unit {0}

task_fits : (c : Command) (bytes : List ℕ) → Holds (Fits (changes_files (Ok c))) (task_of c bytes)
task_fits (command.Synth kind word limits root kept) bytes =
    let asked : SearchWords = record { kind = kind; kind_word = word; limits = limits; root = root } in
    behind (Fits true) (search_asked asked bytes) _ (λ s is. (subst (Holds IsSmall) is (small asked bytes), refl))
task_fits command.Check bytes = behind (Fits false) (read_report bytes) _ (λ r _. behind (Fits false) (searchable (whole_question r.words r.topology)) _ (λ _ _. tt))
task_fits (command.Replay number word order) bytes = behind (Fits false) (read_report bytes) _ (λ r _. behind (Fits false) (point_in r (record { point = number; word = word })) _ (λ p _. tt))
task_fits (command.Programs number word) bytes = behind (Fits false) (read_report bytes) _ (λ r _. behind (Fits false) (point_in r (record { point = number; word = word })) _ (λ p _. tt))
task_fits (command.Family kind size) bytes = tt
task_fits (command.Trial n) bytes = tt
task_fits (command.Bound kind word limits root all_sets) bytes = behind (Fits true) (search_asked _ bytes) _ (λ _ _. refl)
task_fits (command.Ordered kind word limits root) bytes = behind (Fits false) (search_asked _ bytes) _ (λ _ _. tt)
task_fits (command.Degrade group group_word width width_word) bytes = behind (Fits false) (read_report bytes) _ (λ r _. behind (Fits false) (fault_in r group group_word width width_word) _ (λ _ _. behind (Fits false) (searchable (whole_question r.words r.topology)) (λ _. Ok (Degrade r group width)) (λ _ _. tt)))
task_fits (command.Json what.Topology point) bytes = behind (Fits false) (refused_as BadTopology topology_number (topology_of bytes)) _ (λ _ _. tt)
task_fits (command.Json what.Report point) bytes = behind (Fits false) (read_report bytes) _ (λ _ _. tt)
task_fits (command.Json what.Programs point) bytes = behind (Fits false) (read_report bytes) _ (λ r _. behind (Fits false) (need point _) _ (λ asked _. behind (Fits false) (point_in r asked) _ (λ _ _. tt)))
task_fits (command.Unjson what.Report) bytes = behind (Fits false) (refused_as BadJson json_number (read_json (report_form []) report_of bytes)) _ (λ _ _. tt)
task_fits (command.Unjson _) bytes = behind (Fits false) (refused_as BadJson json_number (read_json (topology_form []) topology_of bytes)) _ (λ _ _. tt)

pub due_fits : (words : List (List ℕ)) (bytes : List ℕ) → Holds (Fits (changes_files (command_of words))) (due words bytes)
unfolding due
due_fits words bytes = by_words (command_of words)
  where
    by_words : (x : Result Command WordFault) → Holds (Fits (changes_files x)) (words_asked x >>= (λ c. whole_text (reads_source (Ok c)) bytes >>= (λ _. task_of c bytes)))
    by_words (Ok c) = behind (Fits (changes_files (Ok c))) (whole_text (reads_source (Ok c)) bytes) _ (λ _ _. task_fits c bytes)
    by_words (Err fault) = tt

-- ---- what changes no file

stays_as_due : (changes : Bool) (d : Result Task Refusal) (x : RunValue) → ¬ IsTrue changes → Holds (Fits changes) d → IsEnd d x all_tell → FilesStay x.files x.files_after
stays_as_due changes (Ok (Synthesise w t kept)) x none fits end = absurd (none fits.1)
stays_as_due changes (Ok (Bound w t sets)) x none fits end = absurd (none fits)
stays_as_due changes (Ok (Try n)) x none fits (inl a) = a.answer.1.stay refl
stays_as_due changes _ x none fits (inl a) = a.answer.stay refl
stays_as_due changes _ x none fits (inr a) = a.leaves refl

pub unchanged : (x : RunValue) (a b c : CountValue) → IsRightRun x a b c → ¬ Ask changes_files x.words → FilesStay x.files x.files_after
unchanged x a b c run none = stays_as_due (changes_files (command_of x.words)) (due x.words x.bytes) x none (due_fits x.words x.bytes) (ended x a b c _ run refl)

-- ---- what is refused

refused_statuses : (c : Command) → IsOneOf (refusals_of c) Done → ⊥
refused_statuses (command.Json what.Topology point) is = absurd (cc)
refused_statuses _ is = absurd (cc)

abbrev NotDone : {A : Type 0} → Result A Refusal → Type 0
NotDone = With (λ s. s ≡ Done → ⊥)

first_not_done : {A B : Type 0} (x : Result A Refusal) (f : A → Result B Refusal) → NotDone x → ((a : A) → NotDone (f a)) → NotDone (x >>= f)
first_not_done (Ok a) f h g = g a
first_not_done (Err r) f h g = h

task_not_done : (c : Command) (bytes : List ℕ) (x : Result Task Refusal) → task_of c bytes ≡ x → NotDone x
task_not_done c bytes (Ok t) is = tt
task_not_done c bytes (Err r) is = λ e. refused_statuses c (subst (IsOneOf (refusals_of c)) e (refused_with c bytes r is))

words_not_done : (x : Result Command WordFault) → NotDone (words_asked x)
words_not_done (Ok c) = tt
words_not_done (Err fault) = λ e. let f : BadWords ≡ Done = e in absurd (cc)

due_not_done : (words : List (List ℕ)) (bytes : List ℕ) → NotDone (due words bytes)
unfolding due
due_not_done words bytes =
    first_not_done (words_asked (command_of words)) _ (words_not_done (command_of words))
    (λ c. first_not_done (whole_text (reads_source (Ok c)) bytes) _ (whole_with (λ s. s ≡ Done → ⊥) (reads_source (Ok c)) bytes (λ _ e. let f : TooLong ≡ Done = e in cc)) (λ _. task_not_done c bytes (task_of c bytes) refl))

pub refused_not_done : (x : RunValue) (a b c : CountValue) → IsRightRun x a b c → (r : Refusal) → due x.words x.bytes ≡ Err r → x.status ≡ Done → ⊥
refused_not_done x a b c run r refused done =
    let end = done_answered (Err r) x (ended x a b c (Err r) run refused) done in
    let never : r.status ≡ Done → ⊥ = subst NotDone refused (due_not_done x.words x.bytes) in
    never (sym end.answer.says.status ∙ done)
