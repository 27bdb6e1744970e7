-- What is printed is right: a run that is done was due what its words and its bytes ask for.
use Rattle.std.proofs.{Common.{◌≡◌, ◌⊎◌, inl, inr, ◌<◌, ℕ, Bool, true, false, nat_lt, List, [], ◌∷◌, ◌++◌, length, None, Some, Result, Ok, Err, refl, sym, subst, ap, ◌∙◌, All, codes, if◌then◌else◌}, lemmas.List.append_cancel_left}
use Rattle.std.{proofs.lemmas.List.Elements.All-contains, specs.Fmt.digits}
use Rattle.list_laws.proofs.Each.{all_contained}
use Rattle.outer_ports.specs.declared.part.Part.{Part}
use Rattle.text_lines.specs.Check.{◌>>=◌, need, refuse}
use Rattle.collective_spec.specs.Kinds.{takes_root}
use Rattle.topology_text.{specs.{Names.AreNames, Value.{NamedTopologyValue, IsNamed}, Answer.topology_number, Reading.topology_of, Spelling.{name_at, spelling}}, proofs.{Laws.all_again, Links.node_again}}
use Rattle.candidate_formula.specs.Sizes.{size_of}
use Rattle.candidate_order.{specs.Frontiers.{QuestionValue, FrontierValue, IsWithin, RightFrontier, Searched}, proofs.Frontiers.stands_alone}
use Rattle.command_words.specs.{declared.{command.{Command.Command, SearchWords.SearchWords}, fault.WordCode.TheVariants.UnknownRoot}, Words.command_of}
use Rattle.command_words.specs.declared.command.Command.TheVariants as command
use Rattle.report_form.specs.{declared.fault.ReportCode.ReportCode, Answer.report_number, Spelling.report_text, Reading.report_of, Reports.{ReportValue, WordsValue, IsFrontier, IsWords, IsReport, question_of}, Rows.broadcast_report}
use Rattle.report_form.proofs.{Blamed.broadcast_valid, ReportTaken.report_take}
use Rattle.report_laws.proofs.ReportAgain.{report_again}
use Rattle.frontier_audit.specs.{Rights.{IsRight, IsSearched}, Parts.{IsRightPart, IsSearchedPart}}
use Rattle.run_rules.specs.{declared.status.Status.TheVariants.{Done, BadTopology, BadReport}, Commands.reads_source, Rows.{search, two_nodes_text}, Refusals.{Refusal, refused_as, refused_at, refused_word}}
use Rattle.run_rules.{specs.{Steps.{audit_in, whole_question, whole_text}, Tasks.{Task, Write, Synthesise, Audit, Try, due, limit, root_in, search_asked, searchable, task_of}}, proofs.Denied.right_where_done}
use Rattle.sccl_run.specs.{Headline.{Asks, AsksSynth, Prints, SearchedFrontier, Verifies, search_words}, Laws.IsRightRun, TopCall.{CountValue, RunValue}}
use Rattle.sccl_run.proofs.{Dues.due_command, Ended.ended, RightRuns.{done_answered, refused_not_done}, SearchWords.{root_word, synth_asked}, Verified.checks}

-- ---- it is this, or a refusal

abbrev pub IsJustOr : {A : Type 0} → Result A Refusal → A → Type 0
IsJustOr x a = (x ≡ Ok a) ⊎ ((r : Refusal) × (x ≡ Err r))

pub unless : {A : Type 0} (b : Bool) (e : Refusal) (x : Result A Refusal) (a : A) → IsJustOr x a → IsJustOr (refuse b e >>= (λ _. x)) a
unless true e x a h = inr (e, refl)
unless false e x a h = h

pub passed : (b : Bool) (e : Refusal) → IsJustOr (refuse b e) tt
passed true e = inr (e, refl)
passed false e = inl refl

pub behind : {A B : Type 0} (x : Result A Refusal) (a : A) (f : A → Result B Refusal) (b : B) → IsJustOr x a → IsJustOr (f a) b → IsJustOr (x >>= f) b
behind x a f b (inl e) h = subst (λ y. IsJustOr (y >>= f) b) (sym e) h
behind x a f b (inr (r, e)) h = inr (r, ap (λ y. y >>= f) e)

-- ---- the search that is asked for

root_found : (b : Bool) (names : List (List ℕ)) (root : ℕ) → AreNames names → root < length names → (b ≡ false → root ≡ 0) → root_in names (if b then Some (record { name = name_at names root; word = 6 }) else None) ≡ Ok root
root_found true names root named below none = ap (λ o. need o (refused_word UnknownRoot 6)) (node_again names root named.distinct below)
root_found false names root named below none = ap (λ n. Ok n) (sym (none refl))

pub searchable_or : (q : QuestionValue) → IsJustOr (searchable q) tt
searchable_or q = unless (nat_lt _ (size_of q)) _ _ tt (passed _ _)

search_or : (w : WordsValue) (t : NamedTopologyValue) → IsNamed t → IsWords (length t.names) w
    → IsJustOr (search_asked (record { kind = w.collective.kind; kind_word = 1; limits = w.limits; root = root_word t.names w }) (spelling t)) (w, t)
search_or w t named ok =
    let asked : SearchWords = record { kind = w.collective.kind; kind_word = 1; limits = w.limits; root = root_word t.names w } in
    behind (refused_as BadTopology topology_number (topology_of (spelling t))) t _ (w, t) (inl (ap (refused_as BadTopology topology_number) (all_again t named)))
    (unless _ _ _ (w, t)
    (behind (root_in t.names asked.root) w.collective.root _ (w, t) (inl (root_found (takes_root w.collective.kind) t.names w.collective.root named.names ok.root ok.no_root))
    (behind (searchable (whole_question w t)) tt _ (w, t) (searchable_or (whole_question w t)) (inl refl))))

pub searches_or : (verb last : List ℕ) (said : Bool) (words : List (List ℕ)) (bytes : List ℕ) (w : WordsValue) (t : NamedTopologyValue) → Asks verb last said words bytes w t
    → IsJustOr (search_asked (record { kind = w.collective.kind; kind_word = 1; limits = w.limits; root = root_word t.names w }) bytes) (w, t)
searches_or verb last said words bytes w t asks =
    subst (λ bytes. IsJustOr (search_asked (record { kind = w.collective.kind; kind_word = 1; limits = w.limits; root = root_word t.names w }) bytes) (w, t)) (sym asks.bytes_are) (search_or w t asks.topology asks.limits)

-- ---- what is due

pub due_or : (words : List (List ℕ)) (bytes : List ℕ) (c : Command) (task : Task) → command_of words ≡ Ok c → IsJustOr (task_of c bytes) task → IsJustOr (due words bytes) task
due_or words bytes c task is h = subst (λ y. IsJustOr y task) (sym (due_command words bytes c is)) (whole (reads_source (Ok c)))
  where
    whole : (reads : Bool) → IsJustOr (whole_text reads bytes >>= (λ _. task_of c bytes)) task
    whole true = unless (nat_lt limit (length bytes)) (refused_at _ 0 limit) (task_of c bytes) task h
    whole false = h

pub due_of_done : (x : RunValue) (a b c : CountValue) → IsRightRun x a b c → x.status ≡ Done → (task : Task) → IsJustOr (due x.words x.bytes) task → due x.words x.bytes ≡ Ok task
due_of_done x a b c run done task (inl e) = e
due_of_done x a b c run done task (inr (r, e)) = absurd (refused_not_done x a b c run r e done)

-- ---- a search, and a check

pub found_one : (q : QuestionValue) (f : FrontierValue) → RightFrontier q f → Searched q f → All (IsWithin q) f.refuted → SearchedFrontier q f
found_one q f right searched within =
    record { right = right; within = within; ascend = searched.points_ascend; points_apart = searched.points_apart; refuted_apart = searched.refuted_apart; apart = stands_alone q f right searched; tight = searched.tight }

each_found : (r : ReportValue) → IsRight r → IsSearched r → All (λ x. SearchedFrontier (question_of r.words r.topology x.0) x.1) r.frontiers
each_found r right searched =
    all_contained (λ (x : Part × FrontierValue). SearchedFrontier (question_of r.words r.topology x.0) x.1) r.frontiers (λ x at.
    found_one (question_of r.words r.topology x.0) x.1
    (All-contains (IsRightPart r) r.frontiers x right.parts at)
    (All-contains (IsSearchedPart r) r.frontiers x searched.parts at)
    (All-contains (λ (y : Part × FrontierValue). IsFrontier (question_of r.words r.topology y.0) y.1) r.frontiers x right.valid.frontiers at).refuted)

pub synth_is_true : (x : RunValue) (a b c : CountValue) → IsRightRun x a b c → x.status ≡ Done → (kept : Bool) (w : WordsValue) (t : NamedTopologyValue) → AsksSynth kept x.words x.bytes w t → Prints w t x.before x.now
synth_is_true x a b c run done kept w t asks =
    let is : command_of x.words ≡ Ok (command.Synth w.collective.kind 1 w.limits (root_word t.names w) kept) = ap command_of asks.words_are ∙ synth_asked t.names w kept asks.topology.names asks.limits in
    let task : Task = Synthesise w t kept in
    let asked : due x.words x.bytes ≡ Ok task = due_of_done x a b c run done task (due_or x.words x.bytes _ task is (behind _ (w, t) _ task (searches_or _ _ _ x.words x.bytes w t asks) (inl refl))) in
    let end = done_answered (Ok task) x (ended x a b c (Ok task) run asked) done in
    let answer = end.answer in record { report = answer.report; words = answer.words; topology = answer.topology; text = end.written refl ∙ ap (λ text. x.before ++ text) answer.says.text; right = answer.right; searched = each_found answer.report answer.right answer.searched }

pub verified_is_true : (x : RunValue) (a b c : CountValue) → IsRightRun x a b c → x.status ≡ Done → x.words ≡ codes "check" ∷ [] → Verifies x.bytes
verified_is_true x a b c run done words = by_reading (report_of x.bytes) refl
  where
    audits : (y : Result ReportValue (ReportCode × ℕ)) → report_of x.bytes ≡ y → (task : Task) → IsJustOr (refused_as BadReport report_number y >>= audit_in) task → due x.words x.bytes ≡ Ok task
    audits y is task h = due_of_done x a b c run done task (due_or x.words x.bytes command.Check task (checks x.words words) (subst (λ z. IsJustOr (refused_as BadReport report_number z >>= audit_in) task) (sym is) h))

    by_reading : (y : Result ReportValue (ReportCode × ℕ)) → report_of x.bytes ≡ y → Verifies x.bytes
    by_reading (Ok r) is =
        let asked : due x.words x.bytes ≡ Ok (Audit r) = audits (Ok r) is (Audit r) (behind (searchable (whole_question r.words r.topology)) tt _ (Audit r) (searchable_or (whole_question r.words r.topology)) (inl refl)) in
        let end = done_answered (Ok (Audit r)) x (ended x a b c (Ok (Audit r)) run asked) done in
        record { report = r; text = (report_take x.bytes r is).spelled; right = right_where_done r _ x.status end.text end.answer done }
    by_reading (Err e) is =
        let refused : (task : Task) → due x.words x.bytes ≡ Ok task = λ task. audits (Err e) is task (inr (refused_at BadReport (report_number e.0) e.1, refl)) in
        let clash : Ok (Write []) ≡ Ok (Try 0) = sym (refused (Write [])) ∙ refused (Try 0) in
        absurd (cc)

-- ---- what is read in what was appended

pub same_text : (r s : ReportValue) → IsReport r → IsReport s → (before now : List ℕ) → now ≡ before ++ report_text r → now ≡ before ++ report_text s → r ≡ s
same_text r s first second before now e f =
    let texts : report_text r ≡ report_text s = append_cancel_left before (report_text r) (report_text s) (sym e ∙ f) in
    let both : Ok r ≡ Ok s = sym (report_again r first) ∙ ap report_of texts ∙ report_again s second in
    cc

module _ (x : RunValue) (a b c : CountValue) (run : IsRightRun x a b c) (done : x.status ≡ Done) (kept : Bool) (w : WordsValue) (t : NamedTopologyValue) (asks : AsksSynth kept x.words x.bytes w t) (r : ReportValue) (valid : IsReport r) (text : x.now ≡ x.before ++ report_text r) where
  printed_one : Prints w t x.before x.now
  printed_one = synth_is_true x a b c run done kept w t asks

  is_printed : printed_one.report ≡ r
  is_printed = same_text printed_one.report r printed_one.right.valid valid x.before x.now printed_one.text text

  pub words_read : r.words ≡ w
  words_read = sym (ap (λ s. s.words) is_printed) ∙ printed_one.words

  pub topology_read : r.topology ≡ t
  topology_read = sym (ap (λ s. s.topology) is_printed) ∙ printed_one.topology

  pub right_read : IsRight r
  right_read = subst IsRight is_printed printed_one.right

-- ---- some search is asked for

small_text : two_nodes_text ≡ spelling broadcast_report.topology
unfolding digits spelling
small_text = refl

small_words : search (codes "collective=broadcast") (codes "root=n0" ∷ []) ≡ search_words (codes "synth") broadcast_report.topology.names broadcast_report.words (codes "kept=yes") false
unfolding digits
small_words = refl

pub small_asks : AsksSynth false (search (codes "collective=broadcast") (codes "root=n0" ∷ [])) two_nodes_text broadcast_report.words broadcast_report.topology
small_asks = record { topology = broadcast_valid.topology; limits = broadcast_valid.words; fits = broadcast_valid.pattern; words_are = small_words; bytes_are = small_text }
