use Rattle.std.proofs.Common.{◌++◌, ◌∷◌, [], map, ap, ◌∙◌, decimal}
use Rattle.text_lines.specs.Text.{line}
use Rattle.cnf_formula.specs.declared.line.LratLine.TheVariants.{Deletion}
use Rattle.lrat_text.{specs.Printing.{line_words, trailed}, proofs.Trailed.deletion_text}
use Rattle.lrat_text.proofs.printing.push_deletion.Goals as goal

pub returns : goal.returns
returns c = let i = c.deletion.inside in let out = c.args.out.now.items in let a = c.in_ok-push_number.ensures.appended in let b = c.in_ok-push_word.ensures.appended ∙ ap (λ z. z ++ 32 ∷ 100 ∷ 32 ∷ []) a in
    let d = c.in_ok-push_ids.ensures ∙ ap (λ z. z ++ trailed (map decimal c.deref.result.now)) b ∙ ap (λ xs. out ++ decimal i.id ++ 32 ∷ 100 ∷ 32 ∷ [] ++ trailed (map decimal xs)) c.deref.ensures.value in let e = c.in_ok-push_zero.ensures ∙ ap (λ z. z ++ 48 ∷ 10 ∷ []) d in
    e ∙ deletion_text out (decimal i.id) (map decimal i.ids.items) ∙ ap (λ x. out ++ line (line_words (Deletion x))) c.deletion.view_is
