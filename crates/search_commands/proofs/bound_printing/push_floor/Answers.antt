use Rattle.std.proofs.Common.{List, ℕ, [], ◌∷◌, ◌++◌, ◌∙◌, ap, codes, decimal}
use Rattle.text_lines.specs.Text.{fields}
use Rattle.report_printing.proofs.Pieces.{before}
use Rattle.run_rules.specs.Bounds.{names_of_set}
use Rattle.search_commands.proofs.Pieces.{pieces_are}
use Rattle.search_commands.proofs.bound_printing.push_floor.Goals as goal

pub returns : goal.returns
returns c =
    let names = names_of_set c.args.names.now c.args.floor.nodes in
    let fraction : List (List ℕ) = decimal c.args.floor.above ∷ decimal c.args.floor.below ∷ [] in
    let a = c.args.out.now.items in
    let b1 = c.push_word.new.out.items in
    let b2 = c.push_fraction.new.out.items in
    let b3 = c.push_names.new.out.items in
    let b4 = c.push_word-2.new.out.items in
    before a b1 b4 (codes "floor") _ c.in_ok-push_word.ensures.appended
    (before b1 b2 b4 (fields fraction) _ c.in_ok-push_fraction.ensures
    (before b2 b3 b4 (fields names) (codes "\n") c.in_ok-push_names.ensures c.in_ok-push_word-2.ensures.appended))
    ∙ ap (λ t. a ++ t) (pieces_are (codes "floor") fraction names)
