use Rattle.std.proofs.Common.{◌++◌, ap, ◌∙◌}
use Rattle.json_values.proofs.Appended.{lined}
use Rattle.json_values.proofs.tokens.LinedLines.push_lines.Goals as goal

pub returns : goal.returns
returns g c =
    let old = c.args.out.now.items in
    lined old _ _ _ _ _ (c.in_ok-push_word.ensures.appended ∙ ap (λ t. old ++ t) c.as_bytes.ensures.value) c.in_ok-push_tokens.ensures c.in_ok-push_word-2.ensures.appended
