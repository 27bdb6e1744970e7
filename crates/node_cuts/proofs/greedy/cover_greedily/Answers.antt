use Rattle.std.proofs.Common.{◌≡◌, ◌+◌, ◌-◌, ◌<◌, ◌&&◌, ℕ, suc, Bool, true, List, [], ◌∷◌, ◌++◌, length, sym, ap, ◌∙◌, subst, arith, None, Some, filter, not}
use Rattle.std.{proofs.lemmas.{List.Elements.{All-append, All-cons, All-filter, All-nil, All-same, filter_agree}, Result.IfOk-weaker}, specs.{List.list_any, Option.option_map_or}}
use Rattle.schedule.specs.{Links.{GroupValue, has_link}, Placed.same_pair, Tables.{Marks, marked_at}, Judging.group_at}
use Rattle.node_cuts.specs.{Cuts.{all_groups, ascending, best_of, best_taken, opens}, Opened.{MarksOpen, RemovesGroups, is_alone, is_open}}
use Rattle.node_cuts.proofs.{Apart.{alone_first, first_ones}, Choosing.{best_left, filter_both, left_after}, Within.all_within, Opening.{open_after, open_first, taken_next, told}}
use Rattle.node_cuts.proofs.greedy.cover_greedily.Goals as goal

pub still_open-requires : goal.still_open-requires
still_open-requires c =
    let t = c.args.topology.now in
    let P : ℕ → Type 0 = λ g. g < length t.groups in
    All-same P c.args.alone.now (filter (is_alone t) (all_groups t)) c.requires (All-filter (is_alone t) P (all_groups t) (all_within t).below)

pub remove_groups-requires : goal.remove_groups-requires
remove_groups-requires c =
    let t = c.args.topology.now in
    let P : ℕ → Type 0 = λ g. g < length t.groups in
    let keeps : ℕ → Bool = λ g. is_open c.args.into.cells (group_at t g) in
    let alone : List ℕ = filter (is_alone t) (all_groups t) in
    All-same P c.deref.result.now (filter keeps alone) (c.deref.ensures.value ∙ c.in_ok-taken.ensures ∙ ap (filter keeps) c.requires)
    (All-filter keeps P alone (All-filter (is_alone t) P (all_groups t) (all_within t).below))

pub still_open-requires-2 : goal.still_open-requires-2
still_open-requires-2 c = grind (arith, all_within)

pub loop-turn-init : goal.loop-turn-init
loop-turn-init c =
    let t = c.args.topology.now in
    let P : ℕ → Type 0 = λ g. g < length t.groups in
    let cells : List Bool = c.args.into.cells in
    let new : List Bool = c.remove_groups.new.uncovered.cells in
    let keeps : ℕ → Bool = λ g. is_open cells (group_at t g) in
    let keeps_now : ℕ → Bool = λ g. is_open new (group_at t g) in
    let alone : List ℕ = filter (is_alone t) (all_groups t) in
    let taken : List ℕ = c.in_ok-taken.taken.items in
    let taken_is : taken ≡ filter keeps alone = c.in_ok-taken.ensures ∙ ap (filter keeps) c.requires in
    let left_is : c.in_ok-left.left.items ≡ filter keeps_now (all_groups t) = c.in_ok-left.ensures ∙ ap (filter keeps_now) (c.deref-2.ensures.value ∙ c.in_ok-all.ensures.groups) in
    let removed : RemovesGroups cells new t taken = subst (RemovesGroups cells new t) c.deref.ensures.value c.remove_groups.ensures in
    record {
      taken = All-same P taken (filter keeps alone) taken_is (All-filter keeps P alone (All-filter (is_alone t) P (all_groups t) (all_within t).below));
      left = All-same P c.in_ok-left.left.items (filter keeps_now (all_groups t)) left_is (All-filter keeps_now P (all_groups t) (all_within t).below);
      turns = λ u start.
          let marks : MarksOpen new u t taken = open_after u t cells new taken start removed in
          let first : length t.groups - c.len-first.result ≡ length t.groups - length taken = omega (arith, c.len-first.ensures, c.in_ok-taken.taken.ok) in
          let alone_is : taken ≡ filter (first_ones u t) (all_groups t) = taken_is
          ∙ filter_agree keeps (opens u t []) (λ g. told u t [] cells (open_first u t cells start) g c.groups-turn-end.ensures.limits) alone
          ∙ filter_both (is_alone t) (opens u t []) (all_groups t) in (
            marks,
            left_is ∙ filter_agree keeps_now (opens u t taken) (λ g. told u t taken new marks g c.groups-turn-end.ensures.limits) (all_groups t),
            ap (λ n. best_taken u t n taken) first ∙ ap (λ gs. best_taken u t (length t.groups - length gs) gs) alone_is ∙ alone_first u t,
          );
    }

pub returns-in-None : goal.returns-in-None
returns-in-None c =
    let t = c.args.topology.now in
    let taken : List ℕ = c.loop-turn.taken.items in
    let turn : ℕ = c.loop-turn.turn in
    IfOk-weaker c.ascending.result _ _ (λ groups is u start.
    let prior = c.loop-turn.invariant.turns u start in
    let left : length t.groups - turn ≡ suc (length t.groups - (turn + 1)) = omega (arith, c.loop-turn-test.true, ap length c.groups-turn-end.ensures.groups) in
    let none : best_of u t taken None (all_groups t) ≡ None = sym (best_left u t taken None (all_groups t)) ∙ ap (best_of u t taken None) (sym (c.deref-in-loop-turn.ensures.value ∙ prior.1))
    ∙ sym (c.best_of.ensures.best u taken prior.0) ∙ c.in-None.is in
    is ∙ ap (ascending t) c.deref-in-None.ensures.value
    ∙ ap (λ o. option_map_or (λ best. best_taken u t (length t.groups - (turn + 1)) (taken ++ best ∷ [])) o (ascending t taken)) (sym none)
    ∙ ap (λ n. best_taken u t n taken) (sym left) ∙ prior.2) c.ascending.ensures

pub loop-turn-preserved : goal.loop-turn-preserved
loop-turn-preserved c =
    let t = c.args.topology.now in
    let P : ℕ → Type 0 = λ g. g < length t.groups in
    let taken : List ℕ = c.loop-turn.taken.items in
    let left : List ℕ = c.loop-turn.left.items in
    let turn : ℕ = c.loop-turn.turn in
    let best : ℕ = c.in-Some.best in
    let cells : List Bool = c.loop-turn.uncovered.cells in
    let new : List Bool = c.remove.new.self.cells in
    let keeps : ℕ → Bool = λ g. is_open new (group_at t g) in
    let below : best < length t.groups = c.best_of.ensures.within best c.in-Some.is in
    let taken_is : c.push.new.self.items ≡ taken ++ best ∷ [] = c.in_ok-push-in-Some.ensures.items in
    let left_is : c.in_ok-left-in-Some.left.items ≡ filter keeps left = c.in_ok-left-in-Some.ensures ∙ ap (filter keeps) c.deref-in-Some.ensures.value in
    let links_are : c.links.result.now ≡ (group_at t best).links = c.links.ensures.links ∙ ap (λ (g : GroupValue). g.links) c.group_at.ensures.group in
    record {
      taken = All-same P c.push.new.self.items (taken ++ best ∷ []) taken_is (All-append P taken (best ∷ []) c.loop-turn.invariant.taken (All-cons P best [] below (All-nil P)));
      left = All-same P c.in_ok-left-in-Some.left.items (filter keeps left) left_is (All-filter keeps P left c.loop-turn.invariant.left);
      turns = λ u start.
          let prior = c.loop-turn.invariant.turns u start in
          let few : length t.groups - turn ≡ suc (length t.groups - (turn + 1)) = omega (arith, c.loop-turn-test.true, ap length c.groups-turn-end.ensures.groups) in
          let chosen : best_of u t taken None (all_groups t) ≡ Some best = sym (best_left u t taken None (all_groups t)) ∙ ap (best_of u t taken None) (sym (c.deref-in-loop-turn.ensures.value ∙ prior.1))
          ∙ sym (c.best_of.ensures.best u taken prior.0) ∙ c.in-Some.is in
          let after : Marks new (λ link. marked_at cells link && not (has_link (group_at t best) link)) = subst (λ links. Marks new (λ link. marked_at cells link && not (list_any (same_pair link) links))) links_are c.remove.ensures in
          let marks : MarksOpen new u t (taken ++ best ∷ []) = taken_next u t taken cells prior.0 best true new after in (
            subst (MarksOpen new u t) (sym taken_is) marks,
            left_is ∙ filter_agree keeps (opens u t (taken ++ best ∷ [])) (λ g. told u t (taken ++ best ∷ []) new marks g c.groups-turn-end.ensures.limits) left
                ∙ ap (filter (opens u t (taken ++ best ∷ []))) prior.1 ∙ left_after u t taken best (all_groups t) ∙ ap (λ gs. filter (opens u t gs) (all_groups t)) (sym taken_is),
            ap (best_taken u t (length t.groups - (turn + 1))) taken_is
                ∙ ap (λ o. option_map_or (λ b. best_taken u t (length t.groups - (turn + 1)) (taken ++ b ∷ [])) o (ascending t taken)) (sym chosen)
                ∙ ap (λ n. best_taken u t n taken) (sym few) ∙ prior.2,
          );
    }
