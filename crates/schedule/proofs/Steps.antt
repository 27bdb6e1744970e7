-- The sends of a step stand side by side.
use Rattle.std.proofs.{Common.{◌≡◌, ℕ, ◌+◌, ◌≤◌, Bool, true, false, eqb, ltb, leb, List, [], ◌∷◌, ◌++◌, length, get_or, take, drop, refl, sym, ap, ◌∙◌, arith, length-drop}, lemmas.Bool.Decides.nat_tests}
use Rattle.std.proofs.lemmas.{Bool.{ltb-true, ltb-false, leb-true, leb-false, eq-eqb, ne_eqb, cases_eq}, List.{append-nil, get_or-take, get_or-drop, take-append-drop, length-take-le, Elements.{filter-append, recursion_from_All}}}
use Rattle.std.specs.List.{filter, All, AllPairs, AllWithin, AllByRecursion, Sorted.{IsNonDecreasingBy, IsPartitionPoint}}
use Rattle.list_laws.proofs.Tests.{filter_none}
use Rattle.schedule.specs.{declared.hop.Hop.Hop, Sends.hop_before}

-- the order of sends is an order by step first
pub steps_ordered : (a b : Hop) → hop_before a b ≡ true → a.step ≤ b.step
steps_ordered a b h = grind (arith, nat_tests)

pub steps_ascend : (sends : List Hop) → AllPairs (λ a b. hop_before a b ≡ true) sends → IsNonDecreasingBy (λ h. h.step) sends
steps_ascend sends ascending i j d le inside = grind (arith, cases_eq i j, steps_ordered (get_or sends i d) (get_or sends j d))

filter_whole : {X : Type 0} (p : X → Bool) (xs : List X) → AllByRecursion (λ x. p x ≡ true) xs → filter p xs ≡ xs
filter_whole p [] a = refl
filter_whole p (x ∷ xs) a = rw (a.0, filter_whole p xs a.1) refl

front_fails : (p : Hop → Bool) (xs : List Hop) (i : ℕ) → i ≤ length xs → AllWithin (λ x. p x ≡ false) xs 0 i → filter p (take i xs) ≡ []
front_fails p xs i small fails = grind (arith, length-take-le, get_or-take, filter_none, recursion_from_All)

back_fails : (p : Hop → Bool) (xs : List Hop) (i : ℕ) → i ≤ length xs → AllWithin (λ x. p x ≡ false) xs i (length xs) → filter p (drop i xs) ≡ []
back_fails p xs i small fails =
    let each : All (λ x. p x ≡ false) (drop i xs) = λ k d inside. rw (get_or-drop i xs k d) (fails (i + k) d (omega arith) (omega (arith, length-drop i xs))) in
    filter_none p (drop i xs) (recursion_from_All (λ x. p x ≡ false) (drop i xs) each)

back_passes : (p : Hop → Bool) (xs : List Hop) (i : ℕ) → i ≤ length xs → AllWithin (λ x. p x ≡ true) xs i (length xs) → filter p (drop i xs) ≡ drop i xs
back_passes p xs i small passes =
    let each : All (λ x. p x ≡ true) (drop i xs) = λ k d inside. rw (get_or-drop i xs k d) (passes (i + k) d (omega arith) (omega (arith, length-drop i xs))) in
    filter_whole p (drop i xs) (recursion_from_All (λ x. p x ≡ true) (drop i xs) each)

-- what is left between the sends of earlier steps and of later ones
pub between : (sends : List Hop) (step to from : ℕ) → to ≤ length sends → from ≤ length (take to sends)
    → IsPartitionPoint (λ h. leb h.step step ≡ true) (λ h. leb h.step step ≡ false) sends to
    → IsPartitionPoint (λ h. ltb h.step step ≡ true) (λ h. ltb h.step step ≡ false) (take to sends) from
    → drop from (take to sends) ≡ filter (λ h. eqb h.step step) sends
between sends step to from to_in from_in late early =
    let mine : Hop → Bool = λ h. eqb h.step step in
    let until : List Hop = take to sends in
    let size : length until ≡ to = length-take-le to sends to_in in
    let after : filter mine (drop to sends) ≡ [] = back_fails mine sends to to_in (λ k d low high. ne_eqb _ _ (λ same. omega (arith, leb-false _ _ (late.1 k d low high)))) in
    let before : filter mine (take from until) ≡ [] = front_fails mine until from from_in (λ k d low high. ne_eqb _ _ (λ same. omega (arith, ltb-true _ _ (early.0 k d low high)))) in
    let these : filter mine (drop from until) ≡ drop from until = back_passes mine until from from_in (λ k d low high.
    let not_late : get_or until k d ≡ get_or sends k d = get_or-take to sends k d (omega arith) in
    let up : (get_or sends k d).step ≤ step = leb-true _ _ (late.0 k d (omega arith) (omega arith)) in
    let down : step ≤ (get_or until k d).step = ltb-false _ _ (early.1 k d low high) in
    eq-eqb _ _ (omega (arith, ap (λ (h : Hop). h.step) not_late))) in
    let inner : filter mine until ≡ drop from until =
    ap (filter mine) (sym (take-append-drop from until)) ∙ (filter-append mine (take from until) (drop from until) ∙ (ap (λ front. front ++ filter mine (drop from until)) before ∙ these)) in
    let outer : filter mine sends ≡ filter mine until =
    ap (filter mine) (sym (take-append-drop to sends)) ∙ (filter-append mine until (drop to sends) ∙ (ap (λ back. filter mine until ++ back) after ∙ append-nil (filter mine until))) in
    sym (outer ∙ inner)

-- the same, where the lists have names
pub step_found : (all sends until these : List Hop) (step to from : ℕ) → sends ≡ all → until ≡ take to sends → these ≡ drop from until → to ≤ length sends → from ≤ length until
    → IsPartitionPoint (λ h. leb h.step step ≡ true) (λ h. leb h.step step ≡ false) sends to
    → IsPartitionPoint (λ h. ltb h.step step ≡ true) (λ h. ltb h.step step ≡ false) until from
    → these ≡ filter (λ h. eqb h.step step) all
step_found all sends until these step to from is_all is_until is_these to_in from_in late early = grind (arith, between)
