use Rattle.std.proofs.{Common.{◌++◌, [], map, take, sym, ap, ◌∙◌}, lemmas.List.{flat_map_more, map_more}}
use Rattle.text_lines.specs.Text.{line, text_of}
use Rattle.topology_text.{specs.Spelling.group_words, proofs.Printed.appended_more}
use Rattle.topology_text.proofs.printing.push_groups.Goals as goal

pub loop-group-preserved : goal.loop-group-preserved
loop-group-preserved c =
    let words = group_words c.args.names.now in
    let groups = c.args.groups.now in
    let i = c.loop-group.group-index in
    let g = c.group-item.result in
    appended_more _ _ _ _ _ _ c.loop-group.invariant c.in_ok-push_group.ensures (ap text_of (map_more words groups i g c.loop-group-test.true) ∙ sym (flat_map_more line [] (map words (take i groups)) _) ∙ ap (λ x. text_of (map words (take i groups)) ++ line (words x)) (sym c.group-item.is))
