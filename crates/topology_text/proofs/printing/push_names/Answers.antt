use Rattle.std.proofs.{Common.{◌≡◌, ◌++◌, ◌∷◌, [], take, append_assoc, sym, ap, ◌∙◌}, lemmas.List.{flat_map_more, take_more}}
use Rattle.text_lines.specs.Text.{fields}
use Rattle.topology_text.proofs.Printed.{appended_more}
use Rattle.topology_text.proofs.printing.push_names.Goals as goal

pub loop-name-preserved : goal.loop-name-preserved
loop-name-preserved c =
    let names = c.args.names.now in
    let i = c.loop-name.name-index in
    let name = c.name-item.result in
    let before = c.loop-name.out.items in
    let pushed : c.push_word-in-loop-name.new.out.items ≡ before ++ 32 ∷ name =
    c.in_ok-push_word-2.ensures.appended ∙ ap (λ b. b ++ c.as_bytes.result.now) c.in_ok-push_word.ensures.appended ∙ append_assoc before (32 ∷ []) c.as_bytes.result.now ∙ ap (λ b. before ++ 32 ∷ b) c.as_bytes.ensures.bytes in
    appended_more _ _ _ _ _ _ c.loop-name.invariant pushed (ap fields (take_more names i name c.loop-name-test.true) ∙ sym (flat_map_more (λ w. 32 ∷ w) [] (take i names) _) ∙ ap (λ n. fields (take i names) ++ 32 ∷ n) (sym c.name-item.is))
