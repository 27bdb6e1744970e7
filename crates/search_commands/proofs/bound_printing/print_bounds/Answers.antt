use Rattle.std.{proofs.Common.{◌≡◌, ◌++◌, [], ◌∙◌, ap, map, rules, codes}, specs.List.flat_map}
use Rattle.text_lines.specs.Text.{line, text_of}
use Rattle.outer_ports.specs.declared.part.Part.TheVariants.{Whole}
use Rattle.report_form.specs.{Reports.question_of, Spelling.{refuted_words, synth_words, unknown_words}}
use Rattle.report_printing.{specs.Printed.point_text, proofs.Pieces.before}
use Rattle.node_cuts.specs.Floors.{floor_of}
use Rattle.cut_bounds.specs.Parting.{cuts_among, uncut_among}
use Rattle.candidate_formula.specs.Searched.{searched_question}
use Rattle.run_rules.specs.{Bounds.floor_words, Lines.cut_words}
use Rattle.search_commands.proofs.Pieces.{bound_is}
use Rattle.search_commands.proofs.bound_printing.print_bounds.Goals as goal

pub returns : goal.returns
returns c =
    let w = c.args.words in
    let t = c.args.topology.now in
    let sets = c.args.sets in
    let f = c.args.bounds.now.frontier in
    let q = searched_question (question_of w t Whole) in
    let b1 = c.push_word.new.out.items in
    let b2 = c.push_synth_line.new.out.items in
    let b3 = c.push_floor.new.out.items in
    let b4 = c.push_word-2.new.out.items in
    let b5 = c.push_points.new.out.items in
    let b6 = c.push_cuts.new.out.items in
    let b7 = c.push_all_refuted.new.out.items in
    let b8 = c.push_all_unknown.new.out.items in
    let b9 = c.push_word-3.new.out.items in
    let at = c.names-names.ensures.names in
    let bounds = c.requires.bounds in
    let head : b1 ≡ [] ++ codes "bound 1\n" = search rules in
    let asked : b2 ≡ b1 ++ line (synth_words t.names w) = c.in_ok-push_synth_line.ensures ∙ ap (λ n. b1 ++ line (synth_words n w)) at in
    let floor : b3 ≡ b2 ++ line (floor_words t.names (floor_of sets q.topology q.spec)) = c.in_ok-push_floor.ensures ∙ (ap (λ n. b2 ++ line (floor_words n c.args.bounds.now.floor)) at ∙ ap (λ x. b2 ++ line (floor_words t.names x)) bounds.floor) in
    let points : b5 ≡ b4 ++ flat_map (point_text t.names) f.points = c.in_ok-push_points.ensures ∙ (ap (λ n. b4 ++ flat_map (point_text n) c.points.result.now) at ∙ ap (λ x. b4 ++ flat_map (point_text t.names) x) c.points.ensures) in
    let cuts : b6 ≡ b5 ++ text_of (map (cut_words t.names) (cuts_among sets q f.refuted)) = c.in_ok-push_cuts.ensures ∙ (ap (λ n. b5 ++ text_of (map (cut_words n) c.deref.result.now)) at ∙ ap (λ x. b5 ++ text_of (map (cut_words t.names) x)) (c.deref.ensures.value ∙ bounds.cuts)) in
    let others : b7 ≡ b6 ++ text_of (map refuted_words (uncut_among sets q f.refuted)) = c.in_ok-push_all_refuted.ensures ∙ ap (λ x. b6 ++ text_of (map refuted_words x)) (c.deref-2.ensures.value ∙ bounds.others) in
    let unknown : b8 ≡ b7 ++ text_of (map unknown_words f.unknown) = c.in_ok-push_all_unknown.ensures ∙ ap (λ x. b7 ++ text_of (map unknown_words x)) c.unknown.ensures in
    before [] b1 b9 (codes "bound 1\n") _ head
    (before b1 b2 b9 (line (synth_words t.names w)) _ asked
    (before b2 b3 b9 (line (floor_words t.names (floor_of sets q.topology q.spec))) _ floor
    (before b3 b4 b9 (codes "frontier whole\n") _ c.in_ok-push_word-2.ensures.appended
    (before b4 b5 b9 (flat_map (point_text t.names) f.points) _ points
    (before b5 b6 b9 (text_of (map (cut_words t.names) (cuts_among sets q f.refuted))) _ cuts
    (before b6 b7 b9 (text_of (map refuted_words (uncut_among sets q f.refuted))) _ others
    (before b7 b8 b9 (text_of (map unknown_words f.unknown)) (codes "end\n") unknown c.in_ok-push_word-3.ensures.appended))))))) ∙ bound_is w t sets f
