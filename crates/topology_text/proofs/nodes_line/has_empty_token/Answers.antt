use Rattle.std.proofs.Common.{◌||◌, sym, ap, ◌∙◌}
use Rattle.topology_text.specs.Reading.{has_empty}
use Rattle.topology_text.proofs.nodes_line.has_empty_token.Goals as goal

pub returns-then-is_empty : goal.returns-then-is_empty
returns-then-is_empty c =
    ap (λ b. b || has_empty c.next_word.new.self.words) c.if-is_empty.ensures ∙ ap has_empty (sym c.in-Some.ensures.some) ∙ c.loop-word.invariant ∙ ap has_empty c.tokens_of-tokens.ensures.words

pub loop-word-preserved : goal.loop-word-preserved
loop-word-preserved c = ap (λ b. b || has_empty c.next_word.new.self.words) c.if-is_empty.ensures ∙ ap has_empty (sym c.in-Some.ensures.some) ∙ c.loop-word.invariant

pub returns : goal.returns
returns c = ap has_empty (sym c.in_default.ensures.none) ∙ c.loop-word.invariant ∙ ap has_empty c.tokens_of-tokens.ensures.words
