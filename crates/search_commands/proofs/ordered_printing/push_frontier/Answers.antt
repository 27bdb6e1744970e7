use Rattle.std.{proofs.Common.{◌≡◌, ◌++◌, ◌∙◌, ap, map, codes}, specs.List.flat_map}
use Rattle.outer_ports.specs.declared.part.Part.TheVariants.{Whole}
use Rattle.text_lines.specs.Text.{text_of}
use Rattle.report_form.specs.Spelling.{refuted_words, unknown_words}
use Rattle.report_printing.{specs.Printed.point_text, proofs.Pieces.{before, frontier_is}}
use Rattle.search_commands.proofs.ordered_printing.push_frontier.Goals as goal

pub returns : goal.returns
returns c =
    let names = c.args.names.now in
    let f = c.args.frontier.now in
    let a = c.args.out.now.items in
    let b1 = c.push_word.new.out.items in
    let b2 = c.push_points.new.out.items in
    let b3 = c.push_all_refuted.new.out.items in
    let b4 = c.push_all_unknown.new.out.items in
    let points : b2 ≡ b1 ++ flat_map (point_text names) f.points = c.in_ok-push_points.ensures ∙ ap (λ t. b1 ++ flat_map (point_text names) t) c.points.ensures in
    let refuted : b3 ≡ b2 ++ text_of (map refuted_words f.refuted) = c.in_ok-push_all_refuted.ensures ∙ ap (λ t. b2 ++ text_of (map refuted_words t)) c.refuted.ensures in
    let unknown : b4 ≡ b3 ++ text_of (map unknown_words f.unknown) = c.in_ok-push_all_unknown.ensures ∙ ap (λ t. b3 ++ text_of (map unknown_words t)) c.unknown.ensures in
    before a b1 b4 (codes "frontier whole\n") _ c.in_ok-push_word.ensures.appended
    (before b1 b2 b4 (flat_map (point_text names) f.points) _ points (before b2 b3 b4 (text_of (map refuted_words f.refuted)) (text_of (map unknown_words f.unknown)) refuted unknown))
    ∙ ap (λ t. a ++ t) (frontier_is names Whole f)
