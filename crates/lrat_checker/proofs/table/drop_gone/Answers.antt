use Rattle.std.proofs.{Common.{[], map, set, sym, ap, ◌∙◌, rules, filter}, lemmas.{Fn.filter_same, List.map-set}}
use Rattle.list_laws.proofs.Fronts.{at_map}
use Rattle.lrat_checker.specs.Stored.{is_held}
use Rattle.lrat_checker.proofs.table.drop_gone.Goals as goal

pub returns : goal.returns
returns c =
    let lists = c.args.lists.now.items in
    let k = c.args.code in
    let ls = map (λ v. v.items) lists in
    let old = at_map (λ v. v.items) lists k c.index_mut-list.result.now [] c.requires c.index_mut-list.ensures.value in
    let kept = filter_same _ (is_held c.args.live.now) _ (λ x b f' h. search rules) _ _ c.retain.ensures.filtered in
    map-set (λ v. v.items) lists k c.retain.new.self ∙ ap (set ls k) (kept ∙ ap (filter (is_held c.args.live.now)) (sym old))
