-- A report's checks fail alike on texts whose lines are the same, so that no report has the lines up to one that fails.
use Rattle.std.proofs.Common.{◌≡◌, ℕ, Bool, not, List, [], ◌∷◌, Result, Ok, Err, refl, sym, ◌∙◌, arith, codes}
use Rattle.text_lines.{specs.{Text.{Row, Place, rows_of, start}, Check.{◌>>=◌, refuse, line_part}}, proofs.{Repeated.same_then, Steady.{Steady, Settles, steady_line, steady_found, steady_then, settles_then, settles_ok}}}
use Rattle.outer_ports.specs.declared.part.Part.{Part}
use Rattle.outer_ports.specs.declared.part.Part.TheVariants as part
use Rattle.collective_spec.specs.declared.kind.Kind.{Kind}
use Rattle.collective_spec.specs.declared.kind.Kind.TheVariants as kind
use Rattle.topology_text.{specs.{Value.{NamedTopologyValue, named_with}, Reading.{header_line, nodes_line, groups_at, pattern_at}}, proofs.SteadyParts.{steady_groups, steady_pattern}}
use Rattle.report_form.specs.{declared.fault.ReportCode.ReportCode, Reports.{WordsValue, ReportValue, IsReport, parts_of, question_of}, Spelling.report_text, Lines.{fixed_line, no_line, among}}
use Rattle.report_form.specs.{SynthLine.{AskedValue, asked_line, root_of, words_from}, First.Agrees, Reading.{part_bytes, frontiers_from, joined_at, body_of, version_line, is_same, report_of}}
use Rattle.report_form.proofs.ReportTaken.{report, after_root, after_same, after_header, after_asked, after_head, report_is}
use Rattle.report_form.specs.declared.fault.ReportCode.TheVariants as code
use Rattle.report_laws.proofs.{Judged.{judged, steady_judged, judged_passed}, SteadyLists.steady_among, ReportAgain.report_again, LocalParts.{steady_joined_points, steady_frontier}}

-- ---- all parts

module _ (words : WordsValue) (t : NamedTopologyValue) where
  steady_frontiers : (parts : List Part) → Steady (frontiers_from words t parts) (frontiers_from words t parts)
  steady_frontiers [] = steady_found []
  steady_frontiers (x ∷ parts) = steady_then _ _ _ _ (steady_frontier t.names (question_of words t x) x) (λ f. steady_then _ _ _ _ (steady_frontiers parts) (λ rest. steady_found ((x, f) ∷ rest)))

  steady_joined : (k : Kind) → Steady (joined_at k words t) (joined_at k words t)
  steady_joined kind.Allreduce = steady_then _ _ _ _ (steady_line (fixed_line (part_bytes part.Joined))) (λ u. steady_joined_points t.names (question_of words t part.Joined))
  steady_joined k = steady_found []

  settles_body : Settles (body_of words t) (body_of words t)
  unfolding body_of
  settles_body =
      settles_then _ _ _ _ (steady_frontiers (parts_of words.collective.kind)) (λ fs. settles_then _ _ _ _ (steady_joined words.collective.kind)
      (λ js. settles_then _ _ _ _ (steady_line (fixed_line (codes "end"))) (λ u. settles_then _ _ _ _ (steady_line no_line) (λ v. settles_ok (report words t fs js)))))

-- ---- the whole

-- the root is told at the line of the names
abbrev root_among : AskedValue → List (List ℕ) → Result ℕ ReportCode
root_among a names = root_of names a.root

-- the topology is of the report's version
abbrev same_version : Bool → Bool → Result (Unit {0}) ReportCode
same_version b h = refuse (not (is_same h b)) code.BadLine

-- what is left of the checks, where a fault is looked for among these rows
abbrev behind_names : List Row → Bool → AskedValue → Place → Result ReportValue (ReportCode × ℕ)
behind_names rows b a p = judged nodes_line (root_among a) rows p >>= (λ z. after_root rows b a (z.0.0, z.1) z.0.1)

abbrev behind_asked : List Row → Bool → AskedValue → Place → Result ReportValue (ReportCode × ℕ)
behind_asked rows b a p = judged header_line (same_version b) rows p >>= (λ h. behind_names rows b a h.1)

abbrev in_parts : List Row → Place → Result ReportValue (ReportCode × ℕ)
in_parts rows p = line_part version_line p >>= (λ h. line_part (asked_line h.0) h.1 >>= (λ a. behind_asked rows h.0 a.0 a.1))

settles_report : (rows others : List Row) → Settles (in_parts rows) (in_parts others)
settles_report rows others =
    settles_then _ _ _ _ (steady_line version_line) (λ b. settles_then _ _ _ _ (steady_line (asked_line b))
    (λ a. settles_then _ _ _ _ (steady_judged header_line (same_version b) rows others) (λ v. settles_then _ _ _ _ (steady_judged nodes_line (root_among a) rows others)
    (λ z. settles_then _ _ _ _ (steady_among rows others (groups_at z.0) (groups_at z.0) (steady_groups z.0)) (λ groups. settles_then _ _ _ _ (steady_among rows others (pattern_at b z.0) (pattern_at b z.0) (steady_pattern z.0 b))
    (λ c. settles_body (words_from a z.1) (named_with z.0 groups c)))))))

-- ---- as the reader is written

header_is : (rows : List Row) (b : Bool) (a : AskedValue) (p : Place) → (among rows (line_part header_line p) >>= after_header rows b a p.number) ≡ behind_asked rows b a p
header_is rows b a p = grind (arith, judged_passed, after_same, same_then, judged, after_root)

in_parts_is : (text : List ℕ) → report_of text ≡ in_parts (rows_of text) (start text)
in_parts_is text = grind (arith, report_is, same_then, after_head, after_asked, header_is)

-- no valid report has the lines of a text up to the one that is blamed
pub none_agrees : (text : List ℕ) (why : ReportCode) (n : ℕ) → report_of text ≡ Err (why, n) → (r : ReportValue) → IsReport r → Agrees n text r → ⊥
none_agrees text why n failed r valid agrees =
    let s = settles_report (rows_of text) (rows_of (report_text r)) in
    let fails = (s.at (start text)).err (why, n) (sym (in_parts_is text) ∙ failed) in
    let f = fails.alike (start (report_text r)) (record { many = n; number = refl; up_to = omega arith; rows = agrees }) in
    clash (report_of (report_text r)) (report_again r valid) (in_parts_is (report_text r) ∙ f.is)
  where
    clash : {c : ReportCode × ℕ} (z : Result ReportValue (ReportCode × ℕ)) → z ≡ Ok r → z ≡ Err c → ⊥
    clash {c} z a b = grind arith
