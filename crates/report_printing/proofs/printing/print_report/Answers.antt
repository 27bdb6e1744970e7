use Rattle.std.{proofs.Common.{◌≡◌, ◌++◌, ◌∷◌, [], ◌∙◌, rules, codes}, specs.List.flat_map}
use Rattle.text_lines.specs.Text.{line, text_of}
use Rattle.topology_text.specs.Spelling.{spelling, version_word}
use Rattle.report_form.specs.Spelling.{joined_lines, synth_words}
use Rattle.report_printing.{specs.Printed.frontier_text, proofs.Pieces.{before, report_is}}
use Rattle.report_printing.proofs.printing.print_report.Goals as goal

pub returns : goal.returns
returns c =
    let r = c.args.report.now in
    let names = r.topology.names in
    let b1 = c.push_word.new.out.items in
    let b2 = c.push_synth_line.new.out.items in
    let b3 = c.push_topology.new.out.items in
    let b4 = c.push_frontiers.new.out.items in
    let b5 = c.push_joined.new.out.items in
    let b6 = c.push_word-2.new.out.items in
    let version : b1 ≡ [] ++ line (codes "sccl" ∷ version_word r.topology.custom ∷ []) = search rules in
    let asked : b2 ≡ b1 ++ line (synth_words names r.words) = search rules in
    let topology : b3 ≡ b2 ++ spelling r.topology = search rules in
    let frontiers : b4 ≡ b3 ++ flat_map (frontier_text names) r.frontiers = search rules in
    let joined : b5 ≡ b4 ++ text_of (joined_lines names r.words.collective.kind r.joined) = search rules in
    before [] b1 b6 (line (codes "sccl" ∷ version_word r.topology.custom ∷ [])) _ version
    (before b1 b2 b6 (line (synth_words names r.words)) _ asked
    (before b2 b3 b6 (spelling r.topology) _ topology
    (before b3 b4 b6 (flat_map (frontier_text names) r.frontiers) _ frontiers
    (before b4 b5 b6 (text_of (joined_lines names r.words.collective.kind r.joined)) (codes "end\n") joined c.in_ok-push_word-2.ensures.appended)))) ∙ report_is r
