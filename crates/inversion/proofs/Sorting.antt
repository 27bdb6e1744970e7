-- Sends that are sorted: the images of a schedule's sends, in ascending order, are the sends of its inverse.
use Rattle.std.proofs.Common.{◌≡◌, ℕ, Bool, true, false, not, ◌&&◌, List, [], ◌∷◌, length, map, get_or, inl, inr, ap, ◌∙◌, arith, ◌≢◌, reverse, AllPairs, IsPermutation}
use Rattle.std.proofs.lemmas.{Bool.{and_parts, and_from, cases_Bool, both_ways, false_from_ne_true, not-true, true_from_ne_false}, List.{Elements.recursion_from_All, Sorted.{Contains-permutation, IsPermutation-sym, sorted_far}}}
use Rattle.std.{proofs.{Math.Bool.and_comm, lemmas.Map.Keys.{IsDistinct-IsPermutation, IsDistinct-cons, apart_from_distinct}}, specs.{Cmp.IsStrictWeakOrder, List.{IsDistinct, Sorted.IsSortedBy}}}
use Rattle.schedule.specs.{declared.hop.Hop.Hop, Sends.{ScheduleValue, IsSchedule, IsStep, hop_before}, Inverse.{in_order, inverse_hop, inverse_of}}
use Rattle.schedule.proofs.{First.{Among-from_Contains, Contains-from_Among, InOrder-from_pairs, each_weaker}, Verdicts.sends_one_way, HopOrder.{Apart, among_in_order, ascending_apart, before_all, in_order_among, neither_before}}
use Rattle.schedule.proofs.Inverting.{apart_inverses, one_order, valid_inverse}

-- ---- the order is one that a sort can use

chain : (a b c : Hop) → hop_before a b ≡ false → hop_before b c ≡ false → hop_before a c ≡ false
chain a b c first second =
    false_from_ne_true (hop_before a c) (λ there.
    elim (cases_Bool (hop_before b a))
    [ inl back ↦ both_ways _ second (before_all b a c back there) | inr neither ↦ both_ways _ second (ap (λ h. hop_before h c) (neither_before b a neither first) ∙ there) ])

pub before_is_order : IsStrictWeakOrder hop_before
before_is_order = record { one_way = λ a b there. false_from_ne_true (hop_before b a) (sends_one_way a b there); chain = chain }

-- ---- sends that differ ascend where they are sorted

-- neither comes before the other
abbrev tie : Hop → Hop → Bool
tie a b = not (hop_before a b) && not (hop_before b a)

never_tie : (a b : Hop) → (a ≢ b) → tie a b ≡ false
never_tie a b apart = grind (arith, false_from_ne_true, and_parts, neither_before, not-true)

distinct : (hops : List Hop) → Apart hops → IsDistinct tie hops
unfolding IsDistinct
distinct [] apart = tt
distinct (h ∷ hops) apart = IsDistinct-cons tie h hops (each_weaker (λ o. h ≢ o) (λ o. tie h o ≡ false) (λ o other. never_tie h o other) hops apart.0) (distinct hops apart.1)

sorted_ascends : (xs ys : List Hop) → Apart xs → IsPermutation xs ys → IsSortedBy hop_before ys → AllPairs (λ a b. hop_before a b ≡ true) ys
sorted_ascends xs ys apart moved sorted i j d before within =
    let a : Hop = get_or ys i d in
    let b : Hop = get_or ys j d in
    let later : hop_before b a ≡ false = sorted_far hop_before before_is_order ys sorted i j d (omega (arith, before)) within in
    let other : tie a b ≡ false = apart_from_distinct tie ys i j d (IsDistinct-IsPermutation tie (λ x y. and_comm (not (hop_before x y)) (not (hop_before y x))) xs ys moved (distinct xs apart)) before within in
    true_from_ne_false (hop_before a b) (λ neither. both_ways _ other (and_from _ _ (ap not neither) (ap not later)))

-- ---- the sends of the inverse

pub sorted_inverse : (s : ScheduleValue) (ys : List Hop) → IsSchedule s → IsPermutation (map (inverse_hop (length s.rounds)) s.sends) ys → IsSortedBy hop_before ys → ys ≡ (inverse_of s).sends
sorted_inverse s ys valid moved sorted =
    let xs : List Hop = map (inverse_hop (length s.rounds)) s.sends in
    let apart : Apart xs = apart_inverses (length s.rounds) s.sends (recursion_from_All (λ h. IsStep (length s.rounds) h.step) s.sends valid.steps) (ascending_apart s.sends (InOrder-from_pairs hop_before s.sends valid.ascending)) in
    one_order ys (in_order xs)
    (InOrder-from_pairs hop_before ys (sorted_ascends xs ys apart moved sorted))
    (InOrder-from_pairs hop_before (in_order xs) (valid_inverse s valid).ascending)
    (λ h among. among_in_order h xs (Among-from_Contains h xs (Contains-permutation ys xs h (IsPermutation-sym xs ys moved) (Contains-from_Among h ys among))))
    (λ h among. Among-from_Contains h ys (Contains-permutation xs ys h moved (Contains-from_Among h xs (in_order_among h xs among))))

-- the reversed rounds with the sorted images are the inverse
pub inverse_made : (s : ScheduleValue) (rounds : List ℕ) (ys : List Hop) → IsSchedule s → rounds ≡ reverse s.rounds → IsPermutation (map (inverse_hop (length s.rounds)) s.sends) ys → IsSortedBy hop_before ys → record { rounds = rounds; sends = ys } ≡ inverse_of s
inverse_made s rounds ys valid back moved sorted =
    let made : List ℕ → List Hop → ScheduleValue = λ r h. record { rounds = r; sends = h } in
    ap (λ r. made r ys) back ∙ ap (made (reverse s.rounds)) (sorted_inverse s ys valid moved sorted)
