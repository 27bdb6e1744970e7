use Rattle.std.proofs.{Common.{◌≡◌, ◌++◌, ◌∷◌, [], map, take, get_or, refl, sym, ap, ◌∙◌}, lemmas.List.{flat_map_more, map_more}}
use Rattle.text_lines.specs.Text.{fields}
use Rattle.topology_text.specs.Spelling.{link_word}
use Rattle.topology_text.proofs.Printed.{appended_more, appended_three}
use Rattle.topology_text.proofs.printing.push_links.Goals as goal

pub loop-from-preserved : goal.loop-from-preserved
loop-from-preserved c =
    let names = c.args.names.now in
    let links = c.args.links.now in
    let i = c.loop-from.from-index in
    let link = get_or links i (0, 0) in
    let pushed : c.push_node_name.new.out.items ≡ c.loop-from.out.items ++ 32 ∷ link_word names link =
    appended_three _ _ _ _ _ _ _ _ c.in_ok-push_node_field.ensures c.in_ok-push_word.ensures.appended c.in_ok-push_node_name.ensures refl in
    appended_more _ _ _ _ _ _ c.loop-from.invariant pushed (ap fields (map_more (link_word names) links i (0, 0) c.loop-from-test.true) ∙ sym (flat_map_more (λ w. 32 ∷ w) [] (map (link_word names) (take i links)) _))
