use Rattle.std.proofs.Common.{◌≡◌, ◌++◌, ◌∙◌, ap, rules, codes}
use Rattle.text_lines.specs.Text.{fields}
use Rattle.collective_spec.specs.Kinds.{word_of}
use Rattle.report_form.specs.Spelling.{root_words, pruning_words}
use Rattle.report_printing.{specs.Printed.limits_text, proofs.Pieces.{before, asked_is}}
use Rattle.report_printing.proofs.printing.push_synth_line.Goals as goal

pub returns : goal.returns
returns c =
    let names = c.args.names.now in
    let words = c.args.words in
    let a = c.args.out.now.items in
    let b1 = c.push_word.new.out.items in
    let b2 = c.push_word-2.new.out.items in
    let b3 = c.push_limits.new.out.items in
    let b4 = c.push_root.new.out.items in
    let b5 = c.push_pruning.new.out.items in
    let b6 = c.push_word-3.new.out.items in
    let kind : b2 ≡ b1 ++ word_of words.collective.kind = search rules in
    let limits : b3 ≡ b2 ++ limits_text words.limits = search rules in
    let root : b4 ≡ b3 ++ fields (root_words names words) = search rules in
    let said : b5 ≡ b4 ++ fields (pruning_words words.limits.pruning) = search rules in
    before a b1 b6 (codes "synth collective=") _ c.in_ok-push_word.ensures.appended
    (before b1 b2 b6 (word_of words.collective.kind) _ kind
    (before b2 b3 b6 (limits_text words.limits) _ limits
    (before b3 b4 b6 (fields (root_words names words)) _ root
    (before b4 b5 b6 (fields (pruning_words words.limits.pruning)) (codes "\n") said c.in_ok-push_word-3.ensures.appended)))) ∙ ap (λ t. a ++ t) (asked_is names words)
