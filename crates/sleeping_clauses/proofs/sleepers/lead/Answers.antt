use Rattle.std.proofs.{Common.{◌≡◌, ◌<◌, [], ◌∷◌, ◌++◌, length, map, set, sym, ap, ◌∙◌, subst, arith, Contains}, lemmas.List.{get_or-set_same, length-map, length-set, map-set, set-get_or, Elements.{Contains-append_left, Contains-push}}}
use Rattle.list_laws.proofs.Fronts.{at_map}
use Rattle.sleeping_clauses.{specs.Sleeping.list_at, proofs.Found.grown}
use Rattle.sleeping_clauses.proofs.sleepers.lead.Goals as goal

pub returns-in_err-push-clause-kept : goal.returns-in_err-push-clause-kept
returns-in_err-push-clause-kept c = λ other x h.
    let lists = c.reach.new.leads.items in
    let k = c.args.code in
    let room : k < length lists = omega (arith, c.requires, c.in_ok-reach.ensures.room) in
    let ls = map (λ v. v.items) lists in
    let old = at_map (λ v. v.items) lists k c.index_mut-list.result.now [] room c.index_mut-list.ensures.value in
    let eq : map (λ v. v.items) (set lists k c.push.new.self) ≡ ls = map-set (λ v. v.items) lists k c.push.new.self ∙ ap (set ls k) (c.in_err-push.ensures.items ∙ sym old) ∙ set-get_or ls k [] in
    subst (λ m. Contains (list_at m other) x) (sym eq) (c.reach.ensures.kept other x h)

pub returns : goal.returns
returns c =
    let lists = c.reach.new.leads.items in
    let k = c.args.code in
    let reached = c.reach.ensures in
    let room : k < length lists = omega (arith, c.requires, c.in_ok-reach.ensures.room) in
    let ls = map (λ v. v.items) lists in
    let old = at_map (λ v. v.items) lists k c.index_mut-list.result.now [] room c.index_mut-list.ensures.value in
    let new = list_at ls k ++ c.args.led ∷ [] in
    let w : k < length ls = omega (arith, room, length-map lists (λ v. v.items)) in
    let long = length-set lists k c.push.new.self in
    let eq : map (λ v. v.items) (set lists k c.push.new.self) ≡ set ls k new = map-set (λ v. v.items) lists k c.push.new.self ∙ ap (set ls k) (c.in_ok-push.ensures.items ∙ ap (λ xs. xs ++ c.args.led ∷ []) (sym old)) in
    record {
      long = omega (arith, long, reached.long);
      room = omega (arith, long, c.in_ok-reach.ensures.room);
      kept = λ other x h. subst (λ m. Contains (list_at m other) x) (sym eq) (grown ls k new w (λ y g. Contains-append_left (list_at ls k) (c.args.led ∷ []) y g) other x (reached.kept other x h));
      led = subst (λ xs. Contains xs c.args.led) (sym (ap (λ m. list_at m k) eq ∙ get_or-set_same ls k new [] w)) (Contains-push (list_at ls k) c.args.led);
    }
