-- The counts of a store, which are held at 2, tell the first uneven count, and which it is.
use Rattle.std.proofs.{Common.{◌≡◌, ℕ, zero, suc, ◌+◌, ◌<◌, ◌≤◌, Bool, true, false, not, cond, eqb, List, [], ◌∷◌, length, map, get_or, Some, None, refl, sym, ap, ◌∙◌, subst, arith, min}, lemmas.Bool.{eq-eqb, ne_eqb, Decides.nat_tests}}
use Rattle.std.specs.{List.{AllByRecursion, find, range_with_len}, Option.{option_map, option_or}}
use Rattle.schedule.specs.{Placed.{PlacementValue, IsPlacement}, Sends.{IsInRange, ScheduleValue}, Bags.{Bag, Bags, contributions, held_at_2}, JoinedRuns.joined_after}
use Rattle.schedule.proofs.{First.{each_filter, each_weaker, each_append}, Placing.all_below}
use Rattle.bag_runs.{specs.{Stores.{StoreValue, bag_in, bags_in, stored}, Kept.counted}, proofs.{Counting.counted_at, Tables.table_cell, Merging.min_none}}
use Rattle.inversion.{specs.{declared.verdict.SumVerdict.SumVerdict, Judging.{count_of, counts_due, counts_judged, first_uneven}}, proofs.Uneven.{uneven_cons, uneven_node}}
use Rattle.inversion.specs.declared.verdict.SumVerdict.TheVariants as verdict

-- ---- a bag is kept with places for more counts

-- which node is the first that has not contributed exactly once
pub uneven_counted : (nodes : ℕ) (counts : List ℕ) → uneven_node counts nodes ≡ uneven_node (counted nodes counts) nodes
uneven_counted nodes counts = go 0 nodes (omega arith)
  where
    go : (a n : ℕ) → a + n ≤ nodes → find (λ of. not (eqb (get_or counts of 0) 1)) (range_with_len a n) ≡ find (λ of. not (eqb (get_or (counted nodes counts) of 0) 1)) (range_with_len a n)
    go a zero small = refl
    go a (suc n) small =
        ap (λ k. cond (not (eqb k 1)) (Some a) (find (λ of. not (eqb (get_or counts of 0) 1)) (range_with_len (a + 1) n))) (sym (counted_at nodes counts a (omega (arith, small))))
        ∙ ap (cond (not (eqb (get_or (counted nodes counts) a 0) 1)) (Some a)) (go (a + 1) n (omega (arith, small)))

-- where a chunk is demanded, it is told by the bag
pub uneven_told : (s : StoreValue) (chunk node nodes : ℕ) (counts : List ℕ) → nodes ≡ s.nodes → counted s.nodes counts ≡ bag_in s chunk node → uneven_node counts nodes ≡ uneven_node (bags_in s (chunk, node)) s.nodes
uneven_told s chunk node nodes counts same is = ap (uneven_node counts) same ∙ uneven_counted s.nodes counts ∙ ap (λ bag. uneven_node bag s.nodes) is

-- ---- a count held at 2 is 0, and is 1, where the count is

held_at : (bag : Bag) (node : ℕ) → get_or (held_at_2 bag) node 0 ≡ min (get_or bag node 0) 2
held_at [] node = refl
held_at (x ∷ bag) zero = refl
held_at (x ∷ bag) (suc node) = held_at bag node

node_alike : (bag : Bag) (nodes : ℕ) → uneven_node (held_at_2 bag) nodes ≡ uneven_node bag nodes
node_alike bag nodes =
    let same : (of : ℕ) → not (eqb (get_or (held_at_2 bag) of 0) 1) ≡ not (eqb (get_or bag of 0) 1) = λ of. grind (arith, nat_tests, held_at bag of) in
    λ i. find (λ of. same of i) (range_with_len 0 nodes)

-- a pair of a chunk and a node of the store
pub record IsPair (s : StoreValue) (pair : ℕ × ℕ) : Type 0 where
  pub chunk : pair.0 < s.chunks
  pub node : pair.1 < s.nodes

-- a store of these bags has them at its pairs, with counts held at 2
bag_held : (s : StoreValue) (bags : Bags) (pair : ℕ × ℕ) → s ≡ stored s.chunks s.nodes bags → IsPair s pair → bags_in s pair ≡ held_at_2 (bags pair)
bag_held s bags pair kept is = ap (λ (v : StoreValue). bags_in v pair) kept ∙ table_cell (λ p. held_at_2 (bags p)) s.nodes s.chunks pair.0 pair.1 [] is.chunk is.node

-- the first uneven count is at the same place
uneven_alike : (s : StoreValue) (bags : Bags) (pairs : List (ℕ × ℕ)) → s ≡ stored s.chunks s.nodes bags → AllByRecursion (IsPair s) pairs → first_uneven (bags_in s) s.nodes pairs ≡ first_uneven bags s.nodes pairs
uneven_alike s bags [] kept each = refl
uneven_alike s bags (pair ∷ pairs) kept each =
    uneven_cons (bags_in s) s.nodes pair pairs
    ∙ (ap (λ first. option_or (option_map (λ of. (pair.0, pair.1, of)) first) (first_uneven (bags_in s) s.nodes pairs)) (ap (λ bag. uneven_node bag s.nodes) (bag_held s bags pair kept each.0) ∙ node_alike (bags pair) s.nodes)
    ∙ (ap (option_or (option_map (λ of. (pair.0, pair.1, of)) (uneven_node (bags pair) s.nodes))) (uneven_alike s bags pairs kept each.1)
    ∙ sym (uneven_cons bags s.nodes pair pairs)))

-- ---- the place of the first uneven count

-- a pair of the store, and a node
pub record IsDue (s : StoreValue) (due : ℕ × ℕ × ℕ) : Type 0 where
  pub pair : IsPair s (due.0, due.1)
  pub of : due.2 < s.nodes

found_has : {X : Type 0} (P : X → Type 0) (p : X → Bool) (xs : List X) (x : X) → AllByRecursion P xs → Some x ≡ find p xs → P x
found_has P p [] x each found = absurd cc
found_has P p (y ∷ ys) x each found =
    (elim (p y) as (λ b. Some x ≡ cond b (Some y) (find p ys) → P x)
    [ true ↦ (λ is. let same : y ≡ x = cc in subst P same each.0) | false ↦ (λ is. found_has P p ys x each.1 is) ])
    found

dues_of_pair : (s : StoreValue) (pair : ℕ × ℕ) (low n : ℕ) → IsPair s pair → low + n ≤ s.nodes → AllByRecursion (IsDue s) (map (λ node. (pair.0, pair.1, node)) (range_with_len low n))
dues_of_pair s pair low zero is small = tt
dues_of_pair s pair low (suc n) is small = (record { pair = is; of = omega (arith, small) }, dues_of_pair s pair (low + 1) n is (omega (arith, small)))

dues_inside : (s : StoreValue) (pairs : List (ℕ × ℕ)) → AllByRecursion (IsPair s) pairs → AllByRecursion (IsDue s) (counts_due s.nodes pairs)
dues_inside s [] each = tt
dues_inside s (pair ∷ pairs) each =
    each_append (IsDue s) (map (λ node. (pair.0, pair.1, node)) (range_with_len 0 s.nodes)) (counts_due s.nodes pairs) (dues_of_pair s pair 0 s.nodes each.0 (omega arith)) (dues_inside s pairs each.1)

-- ---- what is said of it

module _ (s : StoreValue) (demand : PlacementValue) (placement : IsPlacement demand) (chunks_are : demand.chunks ≡ s.chunks) (nodes_are : demand.nodes ≡ s.nodes) where
  -- the pairs of a placement of the store's size are pairs of the store
  inside : AllByRecursion (IsPair s) demand.pairs
  inside = grind (arith, placement, chunks_are, nodes_are, each_filter, each_weaker, all_below)

  -- the place of the first uneven count is one of the store's
  pub first_due : (due : ℕ × ℕ × ℕ) → Some due ≡ first_uneven (bags_in s) s.nodes demand.pairs → IsDue s due
  first_due due found = found_has (IsDue s) (λ due. not (eqb (count_of (bags_in s) due) 1)) (counts_due s.nodes demand.pairs) due (dues_inside s demand.pairs inside) found

  module _ (bags : Bags) (kept : s ≡ stored s.chunks s.nodes bags) where
    -- none is uneven
    pub said_even : None ≡ first_uneven (bags_in s) s.nodes demand.pairs → verdict.Sums ≡ counts_judged bags (first_uneven bags s.nodes demand.pairs)
    said_even none = ap (counts_judged bags) (none ∙ uneven_alike s bags demand.pairs kept inside)

    abbrev said : Bool → ℕ × ℕ × ℕ → SumVerdict
    said none due = cond none (verdict.Missing due.0 due.1 due.2) (verdict.Twice due.0 due.1 due.2)

    -- the first that is uneven, by what is kept of its bag
    said_of : (due : ℕ × ℕ × ℕ) (none : Bool) (counts : List ℕ) → Some due ≡ first_uneven (bags_in s) s.nodes demand.pairs → counted s.nodes counts ≡ bag_in s due.0 due.1 → eqb (get_or counts due.2 0) 0 ≡ none
        → said none due ≡ counts_judged bags (first_uneven bags s.nodes demand.pairs)
    said_of due none counts found of_bag is =
        let place : IsDue s due = first_due due found in
        let count : get_or counts due.2 0 ≡ min (count_of bags due) 2 =
        sym (counted_at s.nodes counts due.2 place.of)
        ∙ ap (λ bag. get_or bag due.2 0) (of_bag ∙ bag_held s bags (due.0, due.1) kept place.pair)
        ∙ held_at (bags (due.0, due.1)) due.2 in
        ap (λ b. said b due) (sym is ∙ ap (λ n. eqb n 0) count ∙ min_none (count_of bags due)) ∙ ap (counts_judged bags) (found ∙ uneven_alike s bags demand.pairs kept inside)

    -- it is 0
    pub said_missing : (due : ℕ × ℕ × ℕ) (counts : List ℕ) → Some due ≡ first_uneven (bags_in s) s.nodes demand.pairs → counted s.nodes counts ≡ bag_in s due.0 due.1 → get_or counts due.2 0 ≡ 0
        → verdict.Missing due.0 due.1 due.2 ≡ counts_judged bags (first_uneven bags s.nodes demand.pairs)
    said_missing due counts found of_bag none = said_of due true counts found of_bag (eq-eqb (get_or counts due.2 0) 0 none)

    -- or more
    pub said_twice : (due : ℕ × ℕ × ℕ) (counts : List ℕ) → Some due ≡ first_uneven (bags_in s) s.nodes demand.pairs → counted s.nodes counts ≡ bag_in s due.0 due.1 → 0 < get_or counts due.2 0
        → verdict.Twice due.0 due.1 due.2 ≡ counts_judged bags (first_uneven bags s.nodes demand.pairs)
    said_twice due counts found of_bag some = said_of due false counts found of_bag (ne_eqb (get_or counts due.2 0) 0 (λ none. omega (arith, none, some)))

-- ---- the last store of a run from what each node contributes

module _ (start : StoreValue) (s : ScheduleValue) (chunks had nodes : ℕ) (same : had ≡ nodes) (is : start ≡ stored chunks had (contributions had)) where
  first : start ≡ stored chunks nodes (contributions nodes)
  first = is ∙ ap (λ n. stored chunks n (contributions n)) same

  of_chunks : start.chunks ≡ chunks
  of_chunks = ap (λ (x : StoreValue). x.chunks) first

  of_nodes : start.nodes ≡ nodes
  of_nodes = ap (λ (x : StoreValue). x.nodes) first

  pub starts_in_range : IsInRange chunks nodes s → IsInRange start.chunks start.nodes s
  starts_in_range range = rw (of_chunks, of_nodes) range

  -- it has the last bags of the joined run
  pub last_kept : (last : StoreValue) (adding : ℕ)
      → ((bags : Bags) → start ≡ stored start.chunks start.nodes bags → last ≡ stored start.chunks start.nodes (joined_after bags s adding (length s.rounds)))
      → last ≡ stored chunks nodes (joined_after (contributions nodes) s adding (length s.rounds))
  last_kept last adding ran = grind (arith, first, of_chunks, of_nodes)

-- what is said of a store of these bags, of so many chunks and nodes
pub run_judged : (last : StoreValue) (v : SumVerdict) (chunks nodes : ℕ) (bags : Bags) (pairs : List (ℕ × ℕ)) → last ≡ stored chunks nodes bags
    → ((b : Bags) → last ≡ stored last.chunks last.nodes b → v ≡ counts_judged b (first_uneven b last.nodes pairs)) → v ≡ counts_judged bags (first_uneven bags nodes pairs)
run_judged last v chunks nodes bags pairs is judged = grind (arith, of_chunks, of_nodes)
