use Rattle.std.proofs.Common.{◌≡◌, Some, ap, map, option_map, rules, sym, ◌∙◌}
use Rattle.text_lines.specs.Text.{fields}
use Rattle.serde_json.specs.{Find.as_array, View.{items_view, view}}
use Rattle.json_values.{specs.{Shape.◌>>=◌, Forms.row_read, Pieces.tokens_in}, proofs.Appended.too_few}
use Rattle.json_values.proofs.token.RowTokens.push_tokens.Goals as goal

pub returns-else-is_empty : goal.returns-else-is_empty
returns-else-is_empty c =
    let items = c.in-Some.items.now in
    let listed : Some (items_view items) ≡ as_array (view c.args.value.now) = search rules in
    ap (λ o. option_map fields (o >>= row_read (map tokens_in c.args.self.now.0.now))) (sym listed)
    ∙ too_few c.loop-item.left.now items c.loop-item.item-index c.args.out.now.items c.loop-item.out.items _ (sym c.is_empty.ensures ∙ c.if-is_empty.false) c.loop-item-test.false c.loop-item.invariant
