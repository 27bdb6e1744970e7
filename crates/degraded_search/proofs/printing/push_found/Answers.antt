use Rattle.std.{proofs.Common.{◌≡◌, List, ◌++◌, ◌∙◌, ap, map, codes, filter, not}, specs.List.flat_map}
use Rattle.candidate_order.specs.{declared.candidate.Candidate.Candidate, Frontiers.FrontierValue}
use Rattle.text_lines.specs.Text.{line, text_of}
use Rattle.topology_text.specs.{Value.NamedTopologyValue, Spelling.spelling}
use Rattle.report_form.specs.{Reports.WordsValue, Spelling.{point_lines, refuted_words, synth_words, unknown_words}}
use Rattle.report_printing.{specs.Printed.point_text, proofs.Pieces.{before, text_append, text_each}}
use Rattle.link_faults.specs.Carrying.{is_carried}
use Rattle.run_rules.specs.{Degraded.degraded_text, Lines.carried_words}
use Rattle.degraded_search.proofs.printing.push_found.Goals as goal

degraded_is : (w : WordsValue) (t : NamedTopologyValue) (old : List Candidate) (f : FrontierValue)
    → codes "degraded 1\n" ++ (line (synth_words t.names w) ++ (spelling t ++ (codes "frontier whole\n" ++ (flat_map (point_text t.names) f.points ++ (text_of (map carried_words (filter (is_carried old) f.refuted))
    ++ (text_of (map refuted_words (filter (λ x. not (is_carried old x)) f.refuted)) ++ (text_of (map unknown_words f.unknown) ++ codes "end\n"))))))) ≡ degraded_text w t old f
unfolding degraded_text spelling
degraded_is w t old f = simp (text_append, text_each (point_lines t.names))

pub returns : goal.returns
returns c = λ old parted.
    let left = c.args.left.now in
    let f = c.args.found.now.frontier in
    let b0 = c.args.out.now.items in
    let b1 = c.push_word.new.out.items in
    let b4 = c.push_word-2.new.out.items in
    let b5 = c.push_points.new.out.items in
    let b6 = c.push_all_carried.new.out.items in
    let b7 = c.push_all_refuted.new.out.items in
    let b9 = c.push_word-3.new.out.items in
    let names = c.names-names.ensures.names in
    before b0 b1 b9 (codes "degraded 1\n") _ c.in_ok-push_word.ensures.appended
    (before b1 _ b9 (line (synth_words left.names c.args.words)) _ (c.in_ok-push_synth_line.ensures ∙ ap (λ ns. b1 ++ line (synth_words ns c.args.words)) names)
    (before _ _ b9 (spelling left) _ c.in_ok-push_topology.ensures.appended
    (before _ b4 b9 (codes "frontier whole\n") _ c.in_ok-push_word-2.ensures.appended
    (before b4 b5 b9 (flat_map (point_text left.names) f.points) _ (c.in_ok-push_points.ensures ∙ ap (λ ns. b4 ++ flat_map (point_text ns) c.points.result.now) names ∙ ap (λ ps. b4 ++ flat_map (point_text left.names) ps) c.points.ensures)
    (before b5 b6 b9 (text_of (map carried_words (filter (is_carried old) f.refuted))) _ (c.in_ok-push_all_carried.ensures ∙ ap (λ xs. b5 ++ text_of (map carried_words xs)) (c.deref.ensures.value ∙ parted.carried))
    (before b6 b7 b9 (text_of (map refuted_words (filter (λ x. not (is_carried old x)) f.refuted))) _ (c.in_ok-push_all_refuted.ensures ∙ ap (λ xs. b6 ++ text_of (map refuted_words xs)) (c.deref-2.ensures.value ∙ parted.others))
    (before b7 _ b9 (text_of (map unknown_words f.unknown)) (codes "end\n") (c.in_ok-push_all_unknown.ensures ∙ ap (λ us. b7 ++ text_of (map unknown_words us)) c.unknown.ensures) c.in_ok-push_word-3.ensures.appended)))))))
    ∙ ap (λ t. b0 ++ t) (degraded_is c.args.words left old f)
