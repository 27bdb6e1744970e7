-- With which statuses the answer to what is due ends: done, or a refusal that is listed for the command.
use Rattle.std.proofs.{lemmas.Bool.or_right, Common.{◌≡◌, ◌==◌, ℕ, Bool, true, false, not, nat_lt, slice_get, length, List, [], ◌∷◌, Option, None, Some, Result, Ok, Err, refl, sym, subst, ◌∙◌, codes}}
use Rattle.text_lines.specs.{Check.{◌>>=◌, refuse, need}, Text.line}
use Rattle.collective_spec.specs.Collectives.{fits_kind}
use Rattle.candidate_order.specs.Frontiers.{QuestionValue}
use Rattle.topology_text.specs.{Answer.topology_number, Reading.topology_of}
use Rattle.report_form.specs.{Answer.report_number, Reading.report_of, Reports.ReportValue}
use Rattle.round_encoding.specs.Candidates.{size_limit}
use Rattle.candidate_formula.specs.{Sizes.size_of, Counts.chunk_counts}
use Rattle.json_values.specs.{Answer.json_number, TopologyForm.topology as topology_form, Reading.read_json}
use Rattle.json_rules.specs.ReportForm.{report as report_form}
use Rattle.command_words.specs.declared.command.JsonWhat.TheVariants as what
use Rattle.command_words.specs.declared.command.{RootWord.RootWord, SearchWords.SearchWords, PointWord.PointWord, Command.Command}
use Rattle.command_words.specs.declared.command.Command.TheVariants as command
use Rattle.run_rules.specs.{declared.status.Status.{Status, TheVariants.{Done, BadWords, BadTopology, BadReport, Denied, TooLarge, NoCandidate, BadJson}}, Statuses.status_number, Refusals.{Refusal, refused_as}, Audits.{IsAudited, audited}}
use Rattle.run_rules.specs.{Degraded.IsNewSearch, Commands.IsOneOf, Ends.{answers_of, refusals_of}, Said.FilesValue, Answers.{IsAnswer, Says}}
use Rattle.run_rules.{specs.{Tasks.{Task, Audit, Try, Degrade, fault_in, is_allreduce, point_in, read_report, root_in, search_asked, searchable, task_of}, Steps.{whole_question, words_for}}, proofs.Denied.{denied_by, denied_of, done_of}}

-- what is refused is refused with such a status
abbrev pub With : {A : Type 0} → (Status → Type 0) → Result A Refusal → Type 0
With P (Ok x) = Unit {0}
With P (Err r) = P r.status

-- ---- check by check

module _ (P : Status → Type 0) where
  bind : {A B : Type 0} (x : Result A Refusal) (f : A → Result B Refusal) → With P x → ((a : A) → With P (f a)) → With P (x >>= f)
  bind (Ok a) f h g = g a
  bind (Err r) f h g = h

  refused : (b : Bool) (r : Refusal) → P r.status → With P (refuse b r)
  refused true r h = h
  refused false r h = tt

  needed : {A : Type 0} (o : Option A) (r : Refusal) → P r.status → With P (need o r)
  needed None r h = h
  needed (Some x) r h = tt

  coded : {A C : Type 0} (s : Status) (number : C → ℕ) (x : Result A (C × ℕ)) → P s → With P (refused_as s number x)
  coded s number (Ok x) h = tt
  coded s number (Err e) h = h

  sized : P TooLarge → P NoCandidate → (q : QuestionValue) → With P (searchable q)
  sized large none q = bind _ _ (refused (nat_lt size_limit (size_of q)) _ large) (λ _. refused (length (chunk_counts q) == 0) _ none)

  rooted : P BadWords → (names : List (List ℕ)) (root : Option RootWord) → With P (root_in names root)
  rooted bad names None = tt
  rooted bad names (Some root) = needed _ _ bad

  sought : P BadWords → P BadTopology → P TooLarge → P NoCandidate → (asked : SearchWords) (bytes : List ℕ) → With P (search_asked asked bytes)
  sought bad topology large none asked bytes =
      bind _ _ (coded BadTopology topology_number (topology_of bytes) topology) (λ t.
      bind _ _ (refused (not (fits_kind asked.kind t.custom)) _ bad) (λ _.
      bind _ _ (rooted bad t.names asked.root) (λ node.
      bind _ _ (sized large none (whole_question (words_for asked node) t)) (λ _. tt))))

  reported : P BadReport → (bytes : List ℕ) → With P (read_report bytes)
  reported bad bytes = coded BadReport report_number (report_of bytes) bad

  pointed : P BadWords → (r : ReportValue) (asked : PointWord) → With P (point_in r asked)
  pointed bad r asked = needed _ _ bad

  faulted : P BadWords → (r : ReportValue) (group group_word width width_word : ℕ) → With P (fault_in r group group_word width width_word)
  faulted bad r group group_word width width_word =
      bind _ _ (refused (is_allreduce r.words.collective.kind) _ bad) (λ _. bind _ _ (needed (slice_get r.topology.topology.groups group) _ bad) (λ old. refused (not (nat_lt width old.width)) _ bad))

-- ---- command by command

-- a task is refused with such a status, and only a report that is checked may be denied
abbrev Listed : (Status → Type 0) → Result Task Refusal → Type 0
Listed P (Ok (Audit r)) = P Denied
Listed P (Ok (Degrade r group width)) = P Denied
Listed P (Ok _) = Unit {0}
Listed P (Err r) = P r.status

then : {A : Type 0} (P : Status → Type 0) (x : Result A Refusal) (f : A → Result Task Refusal) → With P x → ((a : A) → Listed P (f a)) → Listed P (x >>= f)
then P (Ok a) f h g = g a
then P (Err r) f h g = h

listed : (c : Command) (bytes : List ℕ) → Listed (IsOneOf (refusals_of c)) (task_of c bytes)
listed (command.Synth kind word limits root kept) bytes =
    let P : Status → Type 0 = IsOneOf (refusals_of (command.Synth kind word limits root kept)) in
    then P _ _ (sought P refl refl refl refl (record { kind = kind; kind_word = word; limits = limits; root = root }) bytes) (λ _. tt)
listed command.Check bytes =
    let P : Status → Type 0 = IsOneOf (refusals_of command.Check) in
    then P _ _ (reported P refl bytes) (λ (r : ReportValue). then P _ _ (sized P refl refl (whole_question r.words r.topology)) (λ _. refl))
listed (command.Replay number word order) bytes =
    let P : Status → Type 0 = IsOneOf (refusals_of (command.Replay number word order)) in
    then P _ _ (reported P refl bytes) (λ (r : ReportValue). then P _ _ (pointed P refl r (record { point = number; word = word })) (λ _. tt))
listed (command.Programs number word) bytes =
    let P : Status → Type 0 = IsOneOf (refusals_of (command.Programs number word)) in
    then P _ _ (reported P refl bytes) (λ (r : ReportValue). then P _ _ (pointed P refl r (record { point = number; word = word })) (λ _. tt))
listed (command.Family kind size) bytes = tt
listed (command.Trial n) bytes = tt
listed (command.Bound kind word limits root all_sets) bytes =
    let P : Status → Type 0 = IsOneOf (refusals_of (command.Bound kind word limits root all_sets)) in
    then P _ _ (sought P refl refl refl refl (record { kind = kind; kind_word = word; limits = limits; root = root }) bytes) (λ _. tt)
listed (command.Ordered kind word limits root) bytes =
    let P : Status → Type 0 = IsOneOf (refusals_of (command.Ordered kind word limits root)) in
    then P _ _ (sought P refl refl refl refl (record { kind = kind; kind_word = word; limits = limits; root = root }) bytes) (λ _. tt)
listed (command.Degrade group group_word width width_word) bytes =
    let P : Status → Type 0 = IsOneOf (refusals_of (command.Degrade group group_word width width_word)) in
    then P _ _ (reported P refl bytes) (λ (r : ReportValue). then P _ _ (faulted P refl r group group_word width width_word) (λ _. then P _ _ (sized P refl refl (whole_question r.words r.topology)) (λ _. refl)))
listed (command.Json what.Topology point) bytes =
    let P : Status → Type 0 = IsOneOf (refusals_of (command.Json what.Topology point)) in
    then P _ _ (coded P BadTopology topology_number (topology_of bytes) refl) (λ _. tt)
listed (command.Json what.Report point) bytes =
    let P : Status → Type 0 = IsOneOf (refusals_of (command.Json what.Report point)) in
    then P _ _ (reported P refl bytes) (λ _. tt)
listed (command.Json what.Programs point) bytes =
    let P : Status → Type 0 = IsOneOf (refusals_of (command.Json what.Programs point)) in
    then P _ _ (reported P refl bytes) (λ (r : ReportValue). then P _ _ (needed P point _ refl) (λ (asked : PointWord). then P _ _ (pointed P refl r asked) (λ _. tt)))
listed (command.Unjson what.Report) bytes =
    let P : Status → Type 0 = IsOneOf (refusals_of (command.Unjson what.Report)) in
    then P _ _ (coded P BadJson json_number (read_json (report_form []) report_of bytes) refl) (λ _. tt)
listed (command.Unjson what.Topology) bytes =
    let P : Status → Type 0 = IsOneOf (refusals_of (command.Unjson what.Topology)) in
    then P _ _ (coded P BadJson json_number (read_json (topology_form []) topology_of bytes) refl) (λ _. tt)
listed (command.Unjson what.Programs) bytes =
    let P : Status → Type 0 = IsOneOf (refusals_of (command.Unjson what.Programs)) in
    then P _ _ (coded P BadJson json_number (read_json (topology_form []) topology_of bytes) refl) (λ _. tt)

-- and so is each refusal of a command
pub refused_with : (c : Command) (bytes : List ℕ) (r : Refusal) → task_of c bytes ≡ Err r → IsOneOf (refusals_of c) r.status
refused_with c bytes r e = subst (Listed (IsOneOf (refusals_of c))) e (listed c bytes)

-- ---- an answer

one_more : (x : Status) (xs : List Status) (s : Status) → IsOneOf xs s → IsOneOf (x ∷ xs) s
one_more x xs s there = or_right (status_number x == status_number s) _ there

-- an audit ends with its denial, or as what is verified is done
audited_ends : (refusals : List Status) (r : ReportValue) (files : FilesValue) (status : Status) (text : List ℕ) (Then : Status → List ℕ → Type 0) → (Then status text → status ≡ Done)
    → IsOneOf refusals Denied → IsAudited r Then files status text → IsOneOf (Done ∷ refusals) status
audited_ends refusals r files status text Then done deny answer = by_verdict (audited r answer.over) refl
  where
    by_verdict : (x : Result (Unit {0}) Refusal) → audited r answer.over ≡ x → IsOneOf (Done ∷ refusals) status
    by_verdict (Ok u) is = subst (IsOneOf (Done ∷ refusals)) (sym (done (done_of r Then files status text answer is))) refl
    by_verdict (Err why) is = subst (IsOneOf (Done ∷ refusals)) (sym ((denied_of r Then files status text answer why is).status ∙ denied_by r answer.over why is)) (one_more Done refusals Denied deny)

answer_ends : (refusals : List Status) (due : Result Task Refusal) (files : FilesValue) (status : Status) (text : List ℕ) → Listed (IsOneOf refusals) due → IsAnswer due files status text → IsOneOf (Done ∷ refusals) status
answer_ends refusals (Err r) files status text end answer = subst (IsOneOf (Done ∷ refusals)) (sym answer.says.status) (one_more Done refusals r.status end)
answer_ends refusals (Ok (Audit r)) files status text end answer = audited_ends refusals r files status text (Says Done (line (codes "verified" ∷ []))) (λ said. said.status) end answer
answer_ends refusals (Ok (Degrade r group width)) files status text end answer = audited_ends refusals r files status text (IsNewSearch r group width) (λ said. said.says.status) end answer
answer_ends refusals (Ok (Try n)) files status text end answer = subst (IsOneOf (Done ∷ refusals)) (sym answer.1.says.status) refl
answer_ends refusals (Ok _) files status text end answer = subst (IsOneOf (Done ∷ refusals)) (sym answer.says.status) refl

pub command_ends : (c : Command) (bytes : List ℕ) (files : FilesValue) (status : Status) (text : List ℕ) → IsAnswer (task_of c bytes) files status text → IsOneOf (answers_of c) status
command_ends c bytes files status text = answer_ends (refusals_of c) (task_of c bytes) files status text (listed c bytes)
