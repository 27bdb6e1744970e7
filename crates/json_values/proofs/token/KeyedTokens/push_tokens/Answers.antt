use Rattle.std.proofs.Common.{◌∷◌, [], ◌++◌, ap, ◌∙◌}
use Rattle.serde_json.specs.View.{view}
use Rattle.json_values.{specs.Pieces.token_in, proofs.Appended.keyed}
use Rattle.json_values.proofs.token.KeyedTokens.push_tokens.Goals as goal

pub returns : goal.returns
returns c =
    let s = c.args.self.now in
    let first = c.push_word.new.out.items in
    let named = c.in_ok-push_word-2.ensures.appended ∙ ap (λ b. first ++ b) c.as_bytes.ensures.value ∙ ap (λ t. t ++ s.0.now) c.in_ok-push_word.ensures.appended in
    keyed c.push.result c.args.out.now.items c.push_word-3.new.out.items c.push.new.out.items s.0.now (token_in s.1 (view c.args.value.now)) (c.in_ok-push_word-3.ensures.appended ∙ ap (λ t. t ++ 61 ∷ []) named) c.push.ensures
