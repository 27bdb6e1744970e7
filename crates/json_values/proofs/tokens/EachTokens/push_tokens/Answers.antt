use Rattle.std.proofs.Common.{◌∷◌, ◌∙◌}
use Rattle.json_values.proofs.Appended.{past}
use Rattle.json_values.proofs.tokens.EachTokens.push_tokens.Goals as goal

pub loop-item-preserved : goal.loop-item-preserved
loop-item-preserved g c =
    c.loop-item.invariant ∙ past (λ w. 32 ∷ w) (g.P.Tokens.tokens c.args.self.now.0) c.in-Some.items.now c.loop-item.item-index c.item-item.result c.loop-item.out.items c.push_tokens.new.out.items c.loop-item-test.true c.item-item.is c.in_ok-push_tokens.ensures
