-- What a search wrote, checked over the files that it left.
use Rattle.std.{proofs.{Common.{◌≡◌, ◌⊎◌, ◌≤◌, ◌++◌, inl, inr, ℕ, Bool, List, [], ◌∷◌, length, Ok, codes, map, refl, append-nil, sym, subst, ap, ◌∙◌}, lemmas.List.{append_cancel_left, Elements.All-contains}}, specs.Fmt.digits}
use Rattle.text_lines.specs.{Check.◌>>=◌, Text.line}
use Rattle.outer_ports.specs.{declared.part.Part.Part, Files.Files, Shelf.FilesStay}
use Rattle.outer_ports.specs.declared.part.Part.TheVariants as part
use Rattle.collective_spec.specs.declared.kind.Kind.TheVariants as kind
use Rattle.candidate_order.specs.Frontiers.{FrontierValue}
use Rattle.topology_text.specs.Value.{NamedTopologyValue}
use Rattle.allreduce_join.specs.Joins.{Joins}
use Rattle.command_words.specs.Words.{command_of}
use Rattle.command_words.specs.declared.command.Command.TheVariants as command
use Rattle.report_form.specs.{Answer.report_number, Reports.{ReportValue, WordsValue, parts_of}, Reading.report_of, Spelling.report_text}
use Rattle.report_laws.proofs.ReportAgain.{report_again}
use Rattle.frontier_audit.{specs.{Shelves.ShelfRight, Rights.{AreJoined, IsRight}, Parts.{IsRightPart, is_reduce, is_gather, points_of}, OwedFiles.Proves}, proofs.{Proved.proves_right, Right.right_verified}}
use Rattle.run_rules.specs.{declared.status.Status.TheVariants.{Done, SinkFailed, BadReport}, Refusals.refused_as, Said.Says, Ends.changes_files, Steps.whole_question, Audits.{audited, not_denied}}
use Rattle.run_rules.{specs.Tasks.{Synthesise, Audit, due, limit, searchable}, proofs.Denied.done_of}
use Rattle.sccl_run.{specs.{Laws.IsRightRun, TopCall.{CountValue, IsEnd, IsSilent, RunValue}, Rows.all_tell}, proofs.{Dues.{due_command, short_due}, Ended.ended, RightRuns.{Fits, Holds, done_answered, due_fits}}}

-- ---- the check of its report

-- a search that is due is small enough, and has a candidate
searched : (words : List (List ℕ)) (bytes : List ℕ) (w : WordsValue) (t : NamedTopologyValue) (kept : Bool) → due words bytes ≡ Ok (Synthesise w t kept) → searchable (whole_question w t) ≡ Ok tt
searched words bytes w t kept e = let fits : Fits (changes_files (command_of words)) (Synthesise w t kept) = subst (Holds (Fits (changes_files (command_of words)))) e (due_fits words bytes) in fits.0

pub checks : (words : List (List ℕ)) → words ≡ codes "check" ∷ [] → command_of words ≡ Ok command.Check
unfolding command_of digits
checks words e = rw e refl

check_due : (words : List (List ℕ)) (bytes : List ℕ) (r : ReportValue) → words ≡ codes "check" ∷ [] → length bytes ≤ limit → report_of bytes ≡ Ok r → searchable (whole_question r.words r.topology) ≡ Ok tt
    → due words bytes ≡ Ok (Audit r)
check_due words bytes r e short read fits =
    due_command words bytes command.Check (checks words e)
    ∙ short_due command.Check bytes short
    ∙ ap (λ x. refused_as BadReport report_number x >>= (λ s. searchable (whole_question s.words s.topology) >>= (λ _. Ok (Audit s)))) read
    ∙ ap (λ x. x >>= (λ _. Ok (Audit r))) fits

two_parts : (xs : List (Part × FrontierValue)) (r : ReportValue) → map (λ x. x.0) xs ≡ part.Reduce ∷ part.Gather ∷ [] → AreJoined r xs → Joins r.topology.topology (points_of is_reduce xs) (points_of is_gather xs) r.joined
two_parts ((part.Reduce, f) ∷ (part.Gather, h) ∷ []) r e joined = rw (append-nil f.points, append-nil h.points) joined
two_parts xs r e joined = absurd (cc)

joined_right : (r : ReportValue) → IsRight r → r.words.collective.kind ≡ kind.Allreduce → Joins r.topology.topology (points_of is_reduce r.frontiers) (points_of is_gather r.frontiers) r.joined
joined_right r right e = two_parts r.frontiers r (right.valid.parts ∙ ap parts_of e) right.joined

files_are : (before now : Files) → FilesStay before now → now ≡ before
files_are before now stay = λ i name. stay name i

nothing_denied : (r : ReportValue) (files : Files) → IsRight r → ShelfRight r files → audited r files ≡ Ok tt
unfolding audited
nothing_denied r files right shelf =
    ap not_denied (right_verified r files right.valid shelf (λ p f at. All-contains (IsRightPart r) r.frontiers (p, f) right.parts at) (joined_right r right))

-- an audit that finds nothing to deny is done, or it is not answered
audit_done : (r : ReportValue) (x : RunValue) → audited r x.files ≡ Ok tt → IsEnd (Ok (Audit r)) x all_tell → (x.status ≡ Done) ⊎ ((x.status ≡ SinkFailed) ⊎ IsSilent x.status)
audit_done r x accepted (inl end) = elim end.stands [
  | inl (same, all) ↦
      let over : end.answer.over ≡ x.files = files_are x.files end.answer.over (end.answer.are refl) in
      inl (same ∙ (done_of r (Says Done (line (codes "verified" ∷ []))) _ end.status end.text end.answer (ap (audited r) over ∙ accepted)).status)
  | inr failed ↦ inr (inl failed)
]
audit_done r x accepted (inr halt) = inr (inr halt.silent)

pub verified_again : (search check : RunValue) (a b c d e f : CountValue) → IsRightRun search a b c → IsRightRun check d e f
    → (w : WordsValue) (t : NamedTopologyValue) (kept : Bool) → due search.words search.bytes ≡ Ok (Synthesise w t kept) → search.status ≡ Done
    → check.words ≡ codes "check" ∷ [] → search.now ≡ search.before ++ check.bytes → length check.bytes ≤ limit → FilesStay search.files_after check.files
    → (check.status ≡ Done) ⊎ ((check.status ≡ SinkFailed) ⊎ IsSilent check.status)
verified_again search check a b c d e f searching checking w t kept asks done words written short stay =
    let end = done_answered (Ok (Synthesise w t kept)) search (ended search a b c _ searching asks) done in
    let report = end.answer.report in
    let text : check.bytes ≡ report_text report = append_cancel_left search.before check.bytes (report_text report) (sym written ∙ end.written refl ∙ ap (λ text. search.before ++ text) end.answer.says.text) in
    let proves : Proves report search.files search.files_after = end.answer.proves refl in
    let fits : searchable (whole_question report.words report.topology) ≡ Ok tt = rw (end.answer.words, end.answer.topology) (searched search.words search.bytes w t kept asks) in
    let is_due : due check.words check.bytes ≡ Ok (Audit report) = check_due check.words check.bytes report words short (ap report_of text ∙ report_again report end.answer.right.valid) fits in
    let shelf : ShelfRight report check.files = subst (ShelfRight report) (sym (files_are search.files_after check.files stay)) (proves_right report _ _ proves) in
    audit_done report check (nothing_denied report check.files end.answer.right shelf) (ended check d e f _ checking is_due)
