use Rattle.std.proofs.Common.{◌≡◌, ◌∷◌, drop}
use Rattle.json_values.proofs.Appended.{with_rest}
use Rattle.json_values.proofs.tokens.EachTokens.push_tokens.Given as goal

-- what is there so far, with the tokens of the items that are left, is what was there with all tokens
abbrev pub invariant-loop-item : goal.invariant-loop-item
invariant-loop-item g l = with_rest (λ w. 32 ∷ w) (g.P.Tokens.tokens l.self.0) l.initial.out.items l.items ≡ with_rest (λ w. 32 ∷ w) (g.P.Tokens.tokens l.self.0) l.out.items (drop l.item-index l.items)
