use Rattle.std.proofs.Common.{◌≡◌, ◌++◌, ◌∙◌, ap, codes}
use Rattle.text_lines.specs.Text.{fields}
use Rattle.report_form.specs.Spelling.{candidate_words}
use Rattle.report_printing.proofs.Pieces.{before}
use Rattle.run_rules.specs.Bounds.{names_of_set}
use Rattle.search_commands.proofs.Pieces.{pieces_are}
use Rattle.search_commands.proofs.bound_printing.push_cut.Goals as goal

pub returns : goal.returns
returns c =
    let names = c.args.names.now in
    let cut = c.args.cut.now in
    let a = c.args.out.now.items in
    let b1 = c.push_word.new.out.items in
    let b2 = c.push_candidate.new.out.items in
    let b3 = c.push_names.new.out.items in
    let b4 = c.push_word-2.new.out.items in
    let inside : b3 ≡ b2 ++ fields (names_of_set names cut.nodes) = c.in_ok-push_names.ensures ∙ ap (λ n. b2 ++ fields (names_of_set names n)) c.nodes.ensures in
    before a b1 b4 (codes "cut") _ c.in_ok-push_word.ensures.appended
    (before b1 b2 b4 (fields (candidate_words c.args.x)) _ c.in_ok-push_candidate.ensures
    (before b2 b3 b4 (fields (names_of_set names cut.nodes)) (codes "\n") inside c.in_ok-push_word-2.ensures.appended))
    ∙ ap (λ t. a ++ t) (pieces_are (codes "cut") (candidate_words c.args.x) (names_of_set names cut.nodes))
