-- Where the parts of a report up to its topology are read, what is left to read is its body.
use Rattle.std.proofs.Common.{◌≡◌, ℕ, Bool, List, Option, Result, Ok, ap, ◌∙◌, not}
use Rattle.text_lines.{specs.{Text.{Row, Place, rows_of, start}, Check.{◌>>=◌, refuse, at_line, line_part}}, proofs.Checks.{bind_ok, ok_is}}
use Rattle.schedule.specs.Links.{GroupValue}
use Rattle.collective_spec.specs.Patterns.{PatternValue}
use Rattle.topology_text.specs.{Value.named_with, Reading.{header_line, nodes_line, groups_at, pattern_at}}
use Rattle.report_form.specs.{declared.fault.ReportCode.ReportCode, Lines.among, Reports.ReportValue, SynthLine.{AskedValue, asked_line, root_of, words_from}, Reading.{body_of, is_same, report_of, version_line}}
use Rattle.report_form.proofs.ReportTaken.{after_pattern, after_groups, after_root, after_names, after_same, after_asked, after_head, report_is}
use Rattle.report_form.specs.declared.fault.ReportCode.TheVariants as code
use Rattle.frontier_report.specs.inner.Header.{header_at}

-- where the header is read, the checks behind it go on at the place behind it
behind_header : (rows : List Row) (patterned : Bool) (p q : Place) (after : Place → Result ReportValue (ReportCode × ℕ)) → header_at rows patterned p ≡ Ok q
    → (among rows (line_part header_line p) >>= (λ h. at_line p.number (refuse (not (is_same h.0 patterned)) code.BadLine) >>= (λ _. after h.1))) ≡ after q
behind_header rows patterned p q after e =
    let (h, q1, e1) = bind_ok (among rows (line_part header_line p)) (λ x. at_line p.number (refuse (not (is_same x.0 patterned)) code.BadLine) >>= (λ _. Ok x.1)) q e in
    let (u, q2, e2) = bind_ok (at_line p.number (refuse (not (is_same h.0 patterned)) code.BadLine)) (λ _. Ok h.1) q e1 in
    ap (λ r. r >>= (λ x. at_line p.number (refuse (not (is_same x.0 patterned)) code.BadLine) >>= (λ _. after x.1))) q1
    ∙ ap (λ r. r >>= (λ _. after h.1)) q2 ∙ ap after (ok_is {C = ReportCode × ℕ} h.1 q e2)

-- up to the pattern all is read: the body is what is left
pub behind_topology : (text : List ℕ) (patterned : Bool) (p1 : Place) (asked : AskedValue) (p2 p3 : Place) (names : List (List ℕ)) (p4 : Place) (root : ℕ) (groups : List GroupValue) (p5 : Place) (custom : Option PatternValue) (p6 : Place)
    → line_part version_line (start text) ≡ Ok (patterned, p1)
    → line_part (asked_line patterned) p1 ≡ Ok (asked, p2)
    → header_at (rows_of text) patterned p2 ≡ Ok p3
    → among (rows_of text) (line_part nodes_line p3) ≡ Ok (names, p4)
    → at_line p3.number (root_of names asked.root) ≡ Ok root
    → among (rows_of text) (groups_at names p4) ≡ Ok (groups, p5)
    → among (rows_of text) (pattern_at patterned names p5) ≡ Ok (custom, p6)
    → report_of text ≡ body_of (words_from asked root) (named_with names groups custom) p6
behind_topology text patterned p1 asked p2 p3 names p4 root groups p5 custom p6 e1 e2 e3 e4 e5 e6 e7 =
    let rows = rows_of text in
    report_is text
    ∙ ap (λ r. r >>= after_head rows) e1
    ∙ ap (λ r. r >>= after_asked rows patterned) e2
    ∙ behind_header rows patterned p2 p3 (λ p. after_same rows patterned asked p tt) e3
    ∙ ap (λ r. r >>= after_names rows patterned asked p3.number) e4
    ∙ ap (λ r. r >>= after_root rows patterned asked (names, p4)) e5
    ∙ ap (λ r. r >>= after_groups rows patterned asked root names) e6
    ∙ ap (λ r. r >>= after_pattern asked root names groups) e7
