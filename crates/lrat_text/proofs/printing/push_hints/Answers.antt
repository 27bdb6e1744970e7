use Rattle.std.proofs.{Common.{arith, rules, ◌++◌, ◌∷◌, [], ◌∙◌, ap, get_or, pos, w64, SFits}, lemmas.Int.to_z-of_z}
use Rattle.lrat_text.{specs.Printing.{hint_word, trailed}, proofs.Trailed.one_more}
use Rattle.lrat_text.proofs.printing.push_hints.Goals as goal

pub loop-hint-preserved : goal.loop-hint-preserved
loop-hint-preserved c = let fits : SFits w64 (get_or c.args.hints.now c.loop-hint.hint-index (pos 0)) = search rules in let pushed = c.in_ok-push_hint.ensures ∙ ap (λ hint. c.loop-hint.out.items ++ trailed (hint_word hint ∷ [])) (to_z-of_z w64 _ fits) in
    one_more (λ word. word ++ 32 ∷ []) hint_word _ _ _ c.args.hints.now c.loop-hint.hint-index (pos 0) (omega (arith, c.loop-hint-test.true)) c.loop-hint.invariant pushed
