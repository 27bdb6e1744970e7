-- What the sends of one step bring to a chunk of a node, and in which order.
use Rattle.std.proofs.{Common.{◌≡◌, ℕ, ◌≤◌, Bool, true, false, ◌&&◌, cond, max, List, [], ◌∷◌, map, refl, ap, ◌∙◌, arith, filter, fold, not, nat_le}, lemmas.Bool.{Decides.nat_tests, and_parts, eqb-true}}
use Rattle.std.specs.List.{AllByRecursion, reduce}
use Rattle.schedule.specs.{declared.hop.Hop.Hop, Sends.hop_before, Bags.{Bag, Bags, held_at_2, is_empty}, Summing.{goes_to, summed_step}, JoinedRuns.{copied_step, joined_step, replaced}}
use Rattle.schedule.proofs.First.{InOrder, InOrder-filter, each_filter, each_passes}
use Rattle.bag_runs.specs.declared.mode.Mode.TheVariants as mode
use Rattle.bag_runs.{specs.Stores.{received, mode_at}, proofs.Merging.{Rises, adds_held, copied, copies_held}}

-- two tests, one after the other
pub filter_both : {X : Type 0} (p q r : X → Bool) → ((x : X) → (p x && q x) ≡ r x) → (xs : List X) → filter q (filter p xs) ≡ filter r xs
filter_both p q r both [] = refl
filter_both p q r both (x ∷ xs) = grind (arith, filter_both p q r both xs)

-- folds that take each element alike
pub fold_alike : {X : Type 0} (P : X → Type 0) (f g : Bag → X → Bag) → ((bag : Bag) (x : X) → P x → f bag x ≡ g bag x) → (xs : List X) → AllByRecursion P xs → (bag : Bag) → fold f bag xs ≡ fold g bag xs
fold_alike P f g same [] each bag = refl
fold_alike P f g same (x ∷ xs) each bag = fold_alike P f g same xs each.1 (f bag x) ∙ ap (λ b. fold g b xs) (same bag x each.0)

-- sends of one step and chunk come by their senders
before_from : (a b : Hop) → a.step ≡ b.step → a.chunk ≡ b.chunk → hop_before a b ≡ true → a.from ≤ b.from
before_from a b steps chunks is = grind (arith, nat_tests)

module _ (step chunk node : ℕ) where
  goes_parts : (h : Hop) → goes_to step (chunk, node) h ≡ true → (h.step ≡ step) × (h.chunk ≡ chunk)
  goes_parts h is = let parts = and_parts _ _ is in (eqb-true h.step step parts.0, eqb-true h.chunk chunk (and_parts _ _ parts.1).0)

  later_from : (h : Hop) → goes_to step (chunk, node) h ≡ true → (hops : List Hop) → AllByRecursion (λ o. goes_to step (chunk, node) o ≡ true) hops → AllByRecursion (λ o. hop_before h o ≡ true) hops → AllByRecursion (λ y. h.from ≤ y) (map (λ o. o.from) hops)
  later_from h is [] each order = tt
  later_from h is (o ∷ hops) each order = grind (arith, goes_parts, before_from, later_from h is hops each.1 order.1)

  rises_from : (hops : List Hop) → AllByRecursion (λ h. goes_to step (chunk, node) h ≡ true) hops → InOrder hop_before hops → Rises (map (λ h. h.from) hops)
  rises_from [] each order = tt
  rises_from (h ∷ hops) each order = (later_from h each.0 hops each.1 order.0, rises_from hops each.1 order.1)

  module _ (bags : Bags) where
    abbrev full : Hop → Bool
    full h = not (is_empty (bags (chunk, h.from)))

    same_copies : (hops : List Hop) → AllByRecursion (λ h. goes_to step (chunk, node) h ≡ true) hops → (own : Bag)
        → fold (λ bag h. received mode.Copy bag (held_at_2 (bags (h.chunk, h.from)))) own hops ≡ fold (λ bag h. copied bag (held_at_2 (bags (chunk, h.from)))) own hops
    same_copies hops each own = grind (arith, fold_alike, goes_parts)

    full_here : (h : Hop) → (goes_to step (chunk, node) h && full h) ≡ (goes_to step (chunk, node) h && not (is_empty (bags (h.chunk, h.from))))
    full_here h = grind (arith, goes_parts)

    -- takes of what goes to a chunk of a node in a step, in the order of the sends, leave the bag of the joined run after the step
    pub merges : (sends : List Hop) (adding : ℕ) → InOrder hop_before sends
        → fold (λ bag h. received (mode_at adding step) bag (held_at_2 (bags (h.chunk, h.from)))) (held_at_2 (bags (chunk, node))) (filter (goes_to step (chunk, node)) sends)
        ≡ held_at_2 (joined_step sends adding bags step (chunk, node))
    merges sends adding order = go (nat_le step adding)
      where
        go : (adds : Bool)
            → fold (λ bag h. received (cond adds mode.Add mode.Copy) bag (held_at_2 (bags (h.chunk, h.from)))) (held_at_2 (bags (chunk, node))) (filter (goes_to step (chunk, node)) sends)
            ≡ held_at_2 (cond adds (summed_step sends bags step) (copied_step sends bags step) (chunk, node))
        go true = adds_held bags (filter (goes_to step (chunk, node)) sends) (bags (chunk, node))
        go false =
            let rises : Rises (map (λ h. h.from) (filter full (filter (goes_to step (chunk, node)) sends))) =
            rises_from (filter full (filter (goes_to step (chunk, node)) sends))
            (each_filter (λ h. goes_to step (chunk, node) h ≡ true) full (filter (goes_to step (chunk, node)) sends) (each_passes (goes_to step (chunk, node)) sends))
            (InOrder-filter hop_before full (filter (goes_to step (chunk, node)) sends) (InOrder-filter hop_before (goes_to step (chunk, node)) sends order)) in
            same_copies (filter (goes_to step (chunk, node)) sends) (each_passes (goes_to step (chunk, node)) sends) (held_at_2 (bags (chunk, node)))
            ∙ copies_held bags chunk node (filter (goes_to step (chunk, node)) sends) rises
            ∙ ap (λ hs. held_at_2 (replaced bags (chunk, node) (reduce max (map (λ h. h.from) hs))))
            (filter_both (goes_to step (chunk, node)) full (λ h. goes_to step (chunk, node) h && not (is_empty (bags (h.chunk, h.from)))) full_here sends)
