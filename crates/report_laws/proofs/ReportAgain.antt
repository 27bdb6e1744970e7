-- The text of a valid report is read as that report.
use Rattle.std.proofs.{Common.{arith, ◌≡◌, ℕ, Bool, true, not, List, [], ◌∷◌, ◌++◌, map, Ok, refl, sym, ap, ◌∙◌, subst, codes, flat_map, is_some}, lemmas.{Bool.not-true, List.map-append}}
use Rattle.text_lines.{specs.{Text.{Row, rows_of}, Check.{refuse, at_line, line_part}}, proofs.{Checks.ok_is, Gives.rows_split, ReadBack.{Reads, reads_end, line_again, Ends}, Repeated.place, Rows.row_of}}
use Rattle.outer_ports.specs.declared.part.Part.{Part}
use Rattle.collective_spec.specs.{Kinds.{takes_root}}
use Rattle.topology_text.{specs.{Value.NamedTopologyValue, Spelling.{nodes_words, group_words, custom_lines}}, proofs.{Front.{header_reads, nodes_reads}, Laws.{named_again, groups_of_read, pattern_of_read, rows_parted}}}
use Rattle.topology_text.specs.Spelling as spelling
use Rattle.report_form.specs.{declared.fault.ReportCode.ReportCode, Reports.{WordsValue, ReportValue, IsReport}, Spelling.{synth_words, frontier_lines, joined_lines, body_lines, report_lines, report_text}}
use Rattle.report_form.{specs.Reading.{frontiers_from, body_of, version_line, is_same, report_of}, proofs.ReportTaken.{head_words, head_spelled, report_at, report_is, end_words}}
use Rattle.report_form.specs.declared.fault.ReportCode.TheVariants as code
use Rattle.report_laws.proofs.{TokensAgain.ok_then, LinesAgain.reads_among, SynthLineAgain.{asked_part_again, root_of_again}, SpelledTokens.rows_of_report, FrontiersAgain.{end_ends, frontiers_end, frontiers_again, joined_again, joined_end}}

-- ---- the body

-- the lines behind the topology
abbrev pub behind_topology : ReportValue → List (List (List ℕ))
behind_topology r = body_lines r ++ end_words ∷ []

-- the frontiers' lines, those of the joined points, and the end
body_rows : (r : ReportValue) → map row_of (behind_topology r) ≡ map row_of (flat_map (frontier_lines r.topology.names) r.frontiers) ++ (map row_of (joined_lines r.topology.names r.words.collective.kind r.joined) ++ row_of end_words ∷ [])
body_rows r = grind (arith, flat_map, map-append, row_of, end_words, rows_split)

pub body_again : (r : ReportValue) (n : ℕ) → IsReport r → body_of r.words r.topology (place n (map row_of (behind_topology r))) ≡ Ok r
unfolding body_of
body_again r n is =
    let words : WordsValue = r.words in
    let t : NamedTopologyValue = r.topology in
    let as_many = is.topology.as_many in
    let ok = is.words.limits in
    let last : List Row = row_of end_words ∷ [] in
    let second : List Row = map row_of (joined_lines t.names words.collective.kind r.joined) ++ last in
    let fs = frontiers_again words t as_many is.topology.names ok is.topology.custom r.frontiers n second is.frontiers (joined_end words t as_many is.topology.names ok is.topology.custom words.collective.kind r.joined last (end_ends [])) in
    let js = joined_again words t as_many is.topology.names ok is.topology.custom words.collective.kind r.joined fs.number last is.joined is.only_allreduce (end_ends []) in
    let start = subst (λ (parts : List Part). Reads (frontiers_from words t parts (place n (map row_of (flat_map (frontier_lines t.names) r.frontiers) ++ second))) r.frontiers second) is.parts fs in
    ap (λ rows. body_of words t (place n rows)) (body_rows r) ∙ ok_then _ _ start.is (ok_then _ _ js.is refl)

-- no line behind the topology begins a group
body_ends : (r : ReportValue) → IsReport r → Ends (codes "group ") (map row_of (behind_topology r))
body_ends r is = grind (arith, row_of, end_words, frontiers_end, joined_end, end_ends, body_rows)

-- ---- the whole

version_reads : (b : Bool) (n : ℕ) (rows : List Row) → Reads (line_part version_line (place n (row_of (head_words b) ∷ rows))) b rows
version_reads b n rows = grind (arith, line_again, row_of, head_words)

same_itself : (b : Bool) → is_same b b ≡ true
same_itself b = grind arith

-- the lines, part by part
abbrev report_rows : ReportValue → List Row
report_rows r =
    row_of (head_words (is_some r.topology.custom)) ∷ row_of (synth_words r.topology.names r.words) ∷ row_of (spelling.head_words (is_some r.topology.custom)) ∷ row_of (nodes_words r.topology.names)
    ∷ (map row_of (map (group_words r.topology.names) r.topology.topology.groups) ++ (map row_of (custom_lines r.topology.names r.topology.custom) ++ map row_of (behind_topology r)))

report_rows_are : (r : ReportValue) → map row_of (report_lines r) ≡ report_rows r
report_rows_are r = grind (arith, row_of, map-append, rows_parted, head_spelled)

-- whatever the rows among which a fault would be looked for
rows_read : (rows : List Row) (r : ReportValue) → IsReport r → report_at rows (place 1 (report_rows r)) ≡ Ok r
rows_read rows r is =
    let words : WordsValue = r.words in
    let t : NamedTopologyValue = r.topology in
    let b : Bool = is_some t.custom in
    let ok = is.topology.names in
    let last : List Row = map row_of (behind_topology r) in
    reads_end _ _ (version_reads b 1 _) (λ k1. reads_end _ _ (asked_part_again b t.names words k1 _ (grind (arith, not-true)) ok is.words)
    (λ k2. reads_end _ _ (reads_among rows _ (header_reads b k2 _)) (λ k3. ok_then _ _ (ap (λ x. at_line k2 (refuse (not x) code.BadLine)) (same_itself b))
    (reads_end _ _ (reads_among rows _ (nodes_reads t.names k3 _ ok)) (λ k4. ok_then _ _ (ap (at_line k3) (root_of_again (takes_root words.collective.kind) t.names words.collective.root ok is.words.root is.words.no_root))
    (reads_end _ _ (reads_among rows _ (groups_of_read t k4 last is.topology (body_ends r is))) (λ k5. reads_end _ _ (reads_among rows _ (pattern_of_read t k5 last is.topology))
    (λ k6. ap (λ x. body_of words x (place k6 last)) (named_again t is.topology) ∙ body_again r k6 is))))))))

pub report_again : (r : ReportValue) → IsReport r → report_of (report_text r) ≡ Ok r
report_again r is =
    report_is (report_text r)
    ∙ ap (λ x. report_at (rows_of (report_text r)) (place 1 x)) (rows_of_report r is ∙ report_rows_are r)
    ∙ rows_read (rows_of (report_text r)) r is

-- a text is that of at most one report
pub one_report : (r s : ReportValue) → IsReport r → IsReport s → report_text r ≡ report_text s → r ≡ s
one_report r s first second same = ok_is {C = ReportCode × ℕ} r s (sym (report_again r first) ∙ ap report_of same ∙ report_again s second)
