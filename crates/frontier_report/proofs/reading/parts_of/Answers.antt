use Rattle.std.proofs.Common.{◌≡◌, sym, ap, ◌∙◌}
use Rattle.text_lines.specs.{Text.rows_of, Check.{at_line, line_part}}
use Rattle.topology_text.{specs.{Value.named_with, Reading.{nodes_line, groups_at, pattern_at}}, proofs.Laws.parts_are}
use Rattle.report_form.{specs.{Lines.among, SynthLine.{root_of, words_from}, Reading.{body_of, report_of, version_line}}, proofs.ReportTaken.among_ok}
use Rattle.report_lines.specs.Spelled.{asked_value}
use Rattle.frontier_report.{specs.inner.Header.header_at, proofs.{Onward.{room_at_first, room_kept, third_line, header_room, names_room, groups_room, pattern_room}, BehindTopology.behind_topology}}
use Rattle.frontier_report.proofs.reading.parts_of.Goals as goal

pub version_part-requires : goal.version_part-requires
version_part-requires c = record { room = room_at_first c.args.text.now c.new-lines.result.place c.requires c.new-lines.ensures.place }

pub asked_part-requires : goal.asked_part-requires
asked_part-requires c = record { room = room_kept c.new-lines.result.place c.version_part.new.lines.place (room_at_first c.args.text.now c.new-lines.result.place c.requires c.new-lines.ensures.place) c.in_ok-patterned.ensures.onward }

pub header_at-requires : goal.header_at-requires
header_at-requires c = record { room = header_room c.asked_part.new.lines.place (third_line c.args.text.now c.in_ok-patterned.patterned (asked_value c.in_ok-asked.asked) c.new-lines.result.place c.version_part.new.lines.place c.asked_part.new.lines.place c.new-lines.ensures.place c.in_ok-patterned.ensures.read c.in_ok-asked.ensures.read) }

pub names_at-requires : goal.names_at-requires
names_at-requires c = record { room = names_room c.asked_part.new.lines.place c.header_at.new.lines.place (third_line c.args.text.now c.in_ok-patterned.patterned (asked_value c.in_ok-asked.asked) c.new-lines.result.place c.version_part.new.lines.place c.asked_part.new.lines.place c.new-lines.ensures.place c.in_ok-patterned.ensures.read c.in_ok-asked.ensures.read) c.in_ok-header_at.ensures.moved }

pub groups_in-requires-clause-room : goal.groups_in-requires-clause-room
groups_in-requires-clause-room c = groups_room c.asked_part.new.lines.place c.header_at.new.lines.place c.names_at.new.lines.place (third_line c.args.text.now c.in_ok-patterned.patterned (asked_value c.in_ok-asked.asked) c.new-lines.result.place c.version_part.new.lines.place c.asked_part.new.lines.place c.new-lines.ensures.place c.in_ok-patterned.ensures.read c.in_ok-asked.ensures.read) c.in_ok-header_at.ensures.moved c.in_ok-names.ensures.moved

pub pattern_in-requires-clause-room : goal.pattern_in-requires-clause-room
pattern_in-requires-clause-room c = pattern_room c.asked_part.new.lines.place c.header_at.new.lines.place c.names_at.new.lines.place c.groups_in.new.lines.place (third_line c.args.text.now c.in_ok-patterned.patterned (asked_value c.in_ok-asked.asked) c.new-lines.result.place c.version_part.new.lines.place c.asked_part.new.lines.place c.new-lines.ensures.place c.in_ok-patterned.ensures.read c.in_ok-asked.ensures.read) c.in_ok-header_at.ensures.moved c.in_ok-names.ensures.moved c.in_ok-groups.ensures.moved

pub parts_behind-requires-clause-room : goal.parts_behind-requires-clause-room
parts_behind-requires-clause-room c =
    let p = c.new-lines.result.place in
    let p1 = c.version_part.new.lines.place in
    let p2 = c.asked_part.new.lines.place in
    let p3 = c.header_at.new.lines.place in
    let p4 = c.names_at.new.lines.place in
    let p5 = c.groups_in.new.lines.place in
    let p6 = c.pattern_in.new.lines.place in
    let first = room_at_first c.args.text.now c.new-lines.result.place c.requires c.new-lines.ensures.place in
    room_kept p5 p6 (room_kept p4 p5 (room_kept p3 p4 (room_kept p2 p3 (room_kept p1 p2 (room_kept p p1 first c.in_ok-patterned.ensures.onward) c.in_ok-asked.ensures.onward) c.in_ok-header_at.ensures.onward) c.in_ok-names.ensures.onward) c.in_ok-groups.ensures.onward) c.in_ok-pattern.ensures.onward

pub from_parts-requires : goal.from_parts-requires
from_parts-requires c =
    parts_are c.header_at.new.lines.place c.names_at.new.lines.place c.in_ok-names.names.keys c.in_ok-groups.groups.items c.in_ok-pattern.pattern c.groups_in.new.lines.place
    (among_ok (rows_of c.header_at.new.lines.text) _ _ c.in_ok-names.ensures.read) (among_ok (rows_of c.names_at.new.lines.text) _ _ c.in_ok-groups.ensures.read) c.in_ok-pattern.ensures.limits

pub returns : goal.returns
returns c =
    let text = c.args.text.now in
    let patterned = c.in_ok-patterned.patterned in
    let asked = asked_value c.in_ok-asked.asked in
    let names = c.in_ok-names.names.keys in
    let p1 = c.version_part.new.lines.place in
    let p2 = c.asked_part.new.lines.place in
    let p3 = c.header_at.new.lines.place in
    let p4 = c.names_at.new.lines.place in
    let p5 = c.groups_in.new.lines.place in
    let p6 = c.pattern_in.new.lines.place in
    let t2 : c.asked_part.new.lines.text ≡ text = c.in_ok-asked.ensures.text ∙ c.in_ok-patterned.ensures.text ∙ c.new-lines.ensures.text in
    let t3 : c.header_at.new.lines.text ≡ text = c.in_ok-header_at.ensures.text ∙ t2 in
    let t4 : c.names_at.new.lines.text ≡ text = c.in_ok-names.ensures.text ∙ t3 in
    let t5 : c.groups_in.new.lines.text ≡ text = c.in_ok-groups.ensures.text ∙ t4 in
    let whole : report_of text ≡ body_of (words_from asked c.in_ok-root.root) (named_with names c.in_ok-groups.groups.items c.in_ok-pattern.pattern) p6 =
    behind_topology text patterned p1 asked p2 p3 names p4 c.in_ok-root.root c.in_ok-groups.groups.items p5 c.in_ok-pattern.pattern p6
    (ap (λ p. line_part version_line p) (sym c.new-lines.ensures.place) ∙ c.in_ok-patterned.ensures.read)
    c.in_ok-asked.ensures.read
    (ap (λ t. header_at (rows_of t) patterned p2) (sym t2) ∙ c.in_ok-header_at.ensures.read)
    (ap (λ t. among (rows_of t) (line_part nodes_line p3)) (sym t3) ∙ c.in_ok-names.ensures.read)
    (ap (λ n. at_line n (root_of names asked.root)) (sym c.number-number.ensures) ∙ c.in_ok-root.ensures)
    (ap (λ t. among (rows_of t) (groups_at names p4)) (sym t4) ∙ c.in_ok-groups.ensures.read)
    (ap (λ t. among (rows_of t) (pattern_at patterned names p5)) (sym t5) ∙ c.in_ok-pattern.ensures.read)
    in
    rw whole (rw (c.new-words.ensures, c.in_ok-topology.ensures) at c.parts_behind.ensures)
