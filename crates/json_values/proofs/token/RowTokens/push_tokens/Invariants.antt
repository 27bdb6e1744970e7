use Rattle.std.proofs.Common.{◌≡◌, ◌++◌, drop, map, option_map}
use Rattle.text_lines.specs.Text.{fields}
use Rattle.serde_json.specs.View.{items_view}
use Rattle.json_values.specs.{Forms.row_read, Pieces.tokens_in}
use Rattle.json_values.proofs.token.RowTokens.push_tokens.Given as goal

-- what is there so far, with the tokens of the items that are left, is what was there with all tokens
abbrev pub invariant-loop-item : goal.invariant-loop-item
invariant-loop-item l =
    option_map (λ ws. l.initial.out.items ++ fields ws) (row_read (map tokens_in l.self.0.now) (items_view l.items)) ≡ option_map (λ ws. l.out.items ++ fields ws) (row_read (map tokens_in l.left) (items_view (drop l.item-index l.items)))
