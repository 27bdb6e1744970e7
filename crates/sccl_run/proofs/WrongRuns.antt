-- Runs that are not right.
use Rattle.std.{proofs.{Common.{◌≡◌, ◌+◌, ℕ, drop, false, zero, suc, Any, map, ap, arith, subst, List, [], ◌∷◌, None, Some, Ok, Err, inl, inr, refl, sym, ◌∙◌, codes, bytes_eq}, lemmas.{Option.none-some, List.drop_all}}, specs.Fmt.digits}
use Rattle.outer_ports.specs.{declared.{part.Part.{Part, TheVariants.{Whole, Joined}}, proof_name.{FileKind.TheVariants.{Cnf, Lrat}, ProofName.ProofName}}, Files.Files}
use Rattle.topology_text.specs.Reading.{pattern_at, topology_of, topology_at, named_at}
use Rattle.topology_families.specs.{declared.family_kind.FamilyKind.TheVariants.Line, Family.family_of}
use Rattle.collective_spec.specs.declared.kind.Kind.TheVariants.{Broadcast}
use Rattle.command_words.specs.Words.{command_of}
use Rattle.candidate_order.specs.{Frontiers.{FrontierValue, QuestionValue}, Ranges.unpruned, declared.mark.Mark.TheVariants.Optimal}
use Rattle.schedule.specs.Rows.{send}
use Rattle.report_form.{specs.{Reports.{WordsValue, parts_of, question_of}, Rows.{broadcast_report, one_point, point}, Spelling.report_text, Reading.{body_of, report_of}}, proofs.Blamed.broadcast_read}
use Rattle.report_laws.proofs.ReportAgain.{report_again}
use Rattle.candidate_formula.specs.{Files.FrontierFiles, Pruned.HasOwnFiles}
use Rattle.frontier_audit.specs.OwedFiles.{Proves}
use Rattle.run_rules.specs.{declared.status.Status.{Status, TheVariants.{OutOfMemory, SourceFailed, SinkFailed, ShelfFailed, BadReport}}, Commands.{Ask, reads_source}, Tasks.{Synthesise, due, limit}, Refusals.{refusal_line, refused_at}}
use Rattle.run_rules.specs.Answers.{IsSearch}
use Rattle.sccl_run.specs.{Laws.IsRightRun, Rows.{all_tell, done_search, failed_search, no_files, own_file, refused_check}, inner.Answering.files_of, TopCall.{CountValue, IsEnd}}
use Rattle.sccl_run.proofs.{Calls.spoken, Ended.ended, FamilyRuns.differ, RightRuns.{answered, done_answered}}

some_name : ProofName
some_name = record { kind = Cnf; part = Whole; s = 1; r = 1; c = 1 }

-- ---- a search that breaks off

asked_words : WordsValue
asked_words = record { collective = record { kind = Broadcast; root = 0 }; limits = record { k = 0; max_s = 1; max_c = 1; conflicts = 1000; pruning = unpruned } }

is_search : (status : Status) → due (failed_search status).words (failed_search status).bytes ≡ Ok (Synthesise asked_words (family_of Line 2) false)
unfolding due command_of topology_of topology_at named_at pattern_at digits asked_words
is_search status = refl

pub unread_is_wrong : (a b c : CountValue) → IsRightRun (failed_search SourceFailed) a b c → ⊥
unread_is_wrong a b c run = none-some _ (run.call.behind_source refl some_name)

-- no file of the part that is joined belongs to a report of one part
of_one_part : (q : Part → QuestionValue) (xs : List (Part × FrontierValue)) → map (λ x. x.0) xs ≡ Whole ∷ [] → Any (λ x. (x.0 ≡ Joined) × HasOwnFiles (q x.0) x.1 (record { s = 1; r = 1; c = 1 })) xs → ⊥
of_one_part q (x ∷ []) e (zero, y, below, got, such) =
    let whole : x.0 ≡ Whole = cc in
    let same : x ≡ y = got in
    let joined : x.0 ≡ Joined = ap (λ z. z.0) same ∙ such.0 in
    let clash : Whole ≡ Joined = sym whole ∙ joined in
    absurd (cc)
of_one_part q (x ∷ []) e (suc k, y, below, got, such) = absurd (omega (arith, below))
of_one_part q xs e any = absurd (cc)

joined_name : ProofName
joined_name = record { kind = Cnf; part = Joined; s = 1; r = 1; c = 1 }

-- a search that is done, or whose text was cut off, left the files of no other part
not_whole : (status : Status) (said : Status) (text : List ℕ) → IsSearch asked_words (family_of Line 2) false (files_of (failed_search status) all_tell) said text → ⊥
unfolding asked_words joined_name
not_whole status said text search =
    let one : map (λ x. x.0) search.report.frontiers ≡ Whole ∷ [] = search.right.valid.parts ∙ ap (λ w. parts_of w.collective.kind) search.words in
    none-some _ ((search.proves refl).others joined_name (of_one_part (question_of search.report.words search.report.topology) search.report.frontiers one))

lost : (status : Status) → IsEnd (Ok (Synthesise asked_words (family_of Line 2) false)) (failed_search status) all_tell → ⊥
lost status (inl end) = not_whole status end.status end.text end.answer
lost status (inr halt) =
    elim ((halt.leaves refl).0.each some_name) [
      | inl same ↦ none-some _ same
      | inr begun ↦ none-some _ begun.1.stands
    ]

pub lost_is_wrong : (status : Status) (a b c : CountValue) → IsRightRun (failed_search status) a b c → ⊥
lost_is_wrong status a b c run = lost status (ended (failed_search status) a b c _ run (is_search status))

-- ---- a text that is refused

is_refused : due (refused_check []).words (refused_check []).bytes ≡ Err (refused_at BadReport 1 1)
unfolding due command_of report_of body_of digits
is_refused = refl

line : refusal_line (refused_at BadReport 1 1) ≡ codes "refused 7 1 1\n"
unfolding digits
line = refl

pub other_place_is_wrong : (a b c : CountValue) → IsRightRun (record (refused_check []) { now = codes "refused 7 1 2\n" }) a b c → ⊥
other_place_is_wrong a b c run =
    let x = record (refused_check []) { now = codes "refused 7 1 2\n" } in
    let end = answered (Err (refused_at BadReport 1 1)) x (ended x a b c _ run is_refused) (λ e. let f : BadReport ≡ SinkFailed = e in cc) (spoken BadReport (λ e. cc) (λ e. cc) (λ e. cc)) in
    differ (bytes_eq (codes "refused 7 1 2\n")) (codes "refused 7 1 2\n") (codes "refused 7 1 1\n") refl refl (end.written refl ∙ end.answer.says.text ∙ line)

check_reads : (left : List ℕ) → Ask reads_source (refused_check left).words
unfolding command_of digits
check_reads left = refl

pub untaken_is_wrong : (a b c : CountValue) (byte : ℕ) (rest : List ℕ) → IsRightRun (refused_check (byte ∷ rest)) a b c → ⊥
untaken_is_wrong a b c byte rest run =
    let left : byte ∷ rest ≡ drop (limit + 1) (codes "x\n") = (run.left refl).read (check_reads (byte ∷ rest)) (λ e. let f : BadReport ≡ OutOfMemory = e in cc) (λ e. let f : BadReport ≡ SourceFailed = e in cc) in
    let none : drop (limit + 1) (codes "x\n") ≡ [] = drop_all (limit + 1) (codes "x\n") (omega arith) in
    absurd (cc)

pub changed_file_is_wrong : (a b c : CountValue) → IsRightRun (record (refused_check []) { files_after = λ name. Some [] }) a b c → ⊥
changed_file_is_wrong a b c run = none-some _ (sym (run.call.behind_refusals refl some_name))

pub blamed_shelf_is_wrong : (a b c : CountValue) → IsRightRun (record (refused_check []) { status = ShelfFailed; now = [] }) a b c → ⊥
blamed_shelf_is_wrong a b c run =
    let x = record (refused_check []) { status = ShelfFailed; now = [] } in
    elim (ended x a b c (Err (refused_at BadReport 1 1)) run is_refused) [
      | inl end ↦ elim end.stands [
        | inl (same, all) ↦ let e : ShelfFailed ≡ BadReport = same ∙ end.answer.says.status in cc
        | inr failed ↦ let e : ShelfFailed ≡ SinkFailed = failed in cc
      ]
      | inr halt ↦ halt.shelf_last refl (refused_at BadReport 1 1) refl
    ]

-- ---- a search that ends well

done_is_search : (files : Files) → due (done_search files).words (done_search files).bytes ≡ Ok (Synthesise asked_words (family_of Line 2) false)
unfolding due command_of topology_of topology_at named_at pattern_at digits asked_words
done_is_search files = refl

-- the one report whose text was written has its files there
kept_there : (files : Files) (a b c : CountValue) → IsRightRun (done_search files) a b c → Proves broadcast_report no_files files
kept_there files a b c run =
    let end = done_answered (Ok (Synthesise asked_words (family_of Line 2) false)) (done_search files) (ended (done_search files) a b c _ run (done_is_search files)) refl in
    let wrote = end.answer.report in
    let text : report_text broadcast_report ≡ report_text wrote = end.written refl ∙ end.answer.says.text in
    let both : Ok wrote ≡ Ok broadcast_report = sym (report_again wrote end.answer.right.valid) ∙ ap report_of (sym text) ∙ broadcast_read in
    let same : wrote ≡ broadcast_report = cc in
    subst (λ r. Proves r no_files files) same (end.answer.proves refl)

abbrev broadcast_frontier : FrontierValue
broadcast_frontier = one_point (point 1 1 Optimal (1 ∷ []) (send 0 0 1 1 ∷ []))

first_kept : (files : Files) → Proves broadcast_report no_files files → FrontierFiles Whole (question_of broadcast_report.words broadcast_report.topology Whole) files broadcast_frontier
first_kept files proves = proves.files 0 (Whole, broadcast_frontier) (omega arith)

pub formula_lacks_is_wrong : (files : Files) (a b c : CountValue) → files (own_file Cnf) ≡ None → IsRightRun (done_search files) a b c → ⊥
formula_lacks_is_wrong files a b c none run =
    let there = (first_kept files (kept_there files a b c run)).solved 0 (record { s = 1; r = 1; c = 1 }) (omega arith) in
    none-some _ (sym none ∙ there.formula)

pub stale_is_wrong : (files : Files) (byte : ℕ) (rest : List ℕ) (a b c : CountValue) → files (own_file Lrat) ≡ Some (byte ∷ rest) → IsRightRun (done_search files) a b c → ⊥
stale_is_wrong files byte rest a b c some run =
    let there = (first_kept files (kept_there files a b c run)).solved 0 (record { s = 1; r = 1; c = 1 }) (omega arith) in
    let empty : Some (byte ∷ rest) ≡ Some [] = sym some ∙ there.no_proof in
    absurd (cc)
