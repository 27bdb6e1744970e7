use Rattle.std.proofs.{Common.{◌≡◌, ◌<◌, [], ◌∷◌, ◌++◌, length, map, set, sym, ap, ◌∙◌, subst, arith, Contains}, lemmas.List.{get_or-set_same, length-map, map-set, set-get_or, Elements.Contains-append_left}}
use Rattle.list_laws.proofs.Fronts.{at_map}
use Rattle.lrat_checker.{specs.Stored.list_at, proofs.Noted.grown}
use Rattle.lrat_checker.proofs.lists.note.Goals as goal

pub returns-in_err-push-clause-kept : goal.returns-in_err-push-clause-kept
returns-in_err-push-clause-kept g c = λ other x h.
    let lists = c.args.lists.now.items in
    let k = c.args.code in
    let ls = map (λ v. v.items) lists in
    let old = at_map (λ v. v.items) lists k c.index_mut-list.result.now [] c.requires c.index_mut-list.ensures.value in
    let eq : map (λ v. v.items) (set lists k c.push.new.self) ≡ ls = map-set (λ v. v.items) lists k c.push.new.self ∙ ap (set ls k) (c.in_err-push.ensures.items ∙ sym old) ∙ set-get_or ls k [] in
    subst (λ m. Contains (list_at m other) x) (sym eq) h

pub returns-clause-kept : goal.returns-clause-kept
returns-clause-kept g c = λ other x h.
    let lists = c.args.lists.now.items in
    let k = c.args.code in
    let ls = map (λ v. v.items) lists in
    let old = at_map (λ v. v.items) lists k c.index_mut-list.result.now [] c.requires c.index_mut-list.ensures.value in
    let new = list_at ls k ++ c.args.item ∷ [] in
    let w : k < length ls = omega (arith, c.requires, length-map lists (λ v. v.items)) in
    let eq : map (λ v. v.items) (set lists k c.push.new.self) ≡ set ls k new = map-set (λ v. v.items) lists k c.push.new.self ∙ ap (set ls k) (c.in_ok-push.ensures.items ∙ ap (λ xs. xs ++ c.args.item ∷ []) (sym old)) in
    subst (λ m. Contains (list_at m other) x) (sym eq) (grown ls k new w (λ y g. Contains-append_left (list_at ls k) (c.args.item ∷ []) y g) other x h)

pub returns-clause-noted : goal.returns-clause-noted
returns-clause-noted g c = grind (arith, length-map, map-set, get_or-set_same)
