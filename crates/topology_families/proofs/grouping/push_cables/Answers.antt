use Rattle.std.proofs.{Common.{◌++◌, ◌∷◌, [], map, take, sym, ap, ◌∙◌, subst}, lemmas.List.map_more}
use Rattle.schedule.specs.Links.{IsGroup}
use Rattle.topology_text.proofs.Printed.{appended_more}
use Rattle.topology_families.specs.Family.{cable, one_wide}
use Rattle.topology_families.proofs.grouping.push_cables.Goals as goal

pub new-requires : goal.new-requires
new-requires c = subst (λ links. IsGroup (one_wide links)) (sym c.in_ok-cable.ensures) (c.requires c.loop-from.from-index (0, 0) c.loop-from-test.true)

pub loop-from-preserved : goal.loop-from-preserved
loop-from-preserved c =
    let laid = cable c.args.links.now in
    let cables = c.args.cables.now in
    let i = c.loop-from.from-index in
    appended_more _ _ _ _ _ _ c.loop-from.invariant c.in_ok-push.ensures.items (map_more laid cables i (0, 0) c.loop-from-test.true ∙ ap (λ g. map laid (take i cables) ++ g ∷ []) (sym (c.new.ensures ∙ ap one_wide c.in_ok-cable.ensures)))
