-- The inverse of a valid schedule is valid, and its inverse is the schedule.
use Rattle.std.proofs.{Common.{◌≡◌, ℕ, zero, suc, true, List, [], ◌∷◌, length, map, inl, inr, refl, sym, ap, ◌∙◌, subst, arith, ◌≢◌, reverse, sum}, lemmas.List.{length-reverse, reverse-reverse}}
use Rattle.std.{proofs.lemmas.List.{Elements.{All-from_recursion, recursion_from_All}, Sorted.{All-permutation, IsPermutation-reverse, sum_by-IsPermutation}}, specs.List.{All, AllPairs, AllByRecursion}}
use Rattle.list_laws.proofs.Each.{each_map}
use Rattle.schedule.specs.{declared.hop.Hop.Hop, Sends.{ScheduleValue, IsSchedule, IsInRange, IsRound, IsStep, hop_before, is_hop_below}, Inverse.{inverse_hop, inverse_of}}
use Rattle.schedule.proofs.{First.{Among, InOrder, InOrder-from_pairs, among_each, among_map, map_among}, Verdicts.sends_one_way, HopOrder.{Apart, among_in_order, ascending_apart, ascends, each_in_order, in_order_among, same_hop}}

-- ---- ascending lists of the same sends are the same

abbrev Within : List Hop → List Hop → Type 0
Within xs ys = (x : Hop) → Among x xs → Among x ys

pub never_itself : (h : Hop) → hop_before h h ≡ true → ⊥
never_itself h itself = sends_one_way h h itself itself

same_first : (a b : Hop) (xs ys : List Hop) → InOrder hop_before (a ∷ xs) → InOrder hop_before (b ∷ ys) → Within (a ∷ xs) (b ∷ ys) → Within (b ∷ ys) (a ∷ xs) → a ≡ b
same_first a b xs ys first second there back =
    elim (there a (inl refl)) [
      | inl same ↦ sym same
      | inr later ↦ elim (back b (inl refl)) [
        | inl same ↦ same
        | inr later_too ↦ absurd (sends_one_way a b (among_each (λ y. hop_before a y ≡ true) b xs first.0 later_too) (among_each (λ y. hop_before b y ≡ true) a ys second.0 later))
      ]
    ]

rest_within : (a b : Hop) (xs ys : List Hop) → a ≡ b → InOrder hop_before (a ∷ xs) → Within (a ∷ xs) (b ∷ ys) → Within xs ys
rest_within a b xs ys same order there x among = grind (arith, never_itself, among_each)

pub one_order : (xs ys : List Hop) → InOrder hop_before xs → InOrder hop_before ys → Within xs ys → Within ys xs → xs ≡ ys
one_order [] [] first second there back = refl
one_order [] (b ∷ ys) first second there back = absurd (back b (inl refl))
one_order (a ∷ xs) [] first second there back = absurd (there a (inl refl))
one_order (a ∷ xs) (b ∷ ys) first second there back = grind (arith, same_first, rest_within, one_order xs ys first.1 second.1)

-- ---- one send and its inverse

back_again : (steps : ℕ) (h : Hop) → IsStep steps h.step → inverse_hop steps (inverse_hop steps h) ≡ h
back_again steps h is = same_hop (inverse_hop steps (inverse_hop steps h)) h refl refl refl (omega (arith, is.from, is.to))

apart_again : (steps : ℕ) (a b : Hop) → IsStep steps a.step → IsStep steps b.step → a ≢ b → inverse_hop steps a ≢ inverse_hop steps b
apart_again steps a b first second apart same = grind (arith, same_hop)

abbrev pub StepsIn : ℕ → List Hop → Type 0
StepsIn steps hops = AllByRecursion (λ h. IsStep steps h.step) hops

each_apart : (steps : ℕ) (h : Hop) (hops : List Hop) → IsStep steps h.step → StepsIn steps hops → AllByRecursion (λ o. h ≢ o) hops → AllByRecursion (λ o. inverse_hop steps h ≢ o) (map (inverse_hop steps) hops)
each_apart steps h [] is each apart = tt
each_apart steps h (o ∷ hops) is each apart = (apart_again steps h o is each.0 apart.0, each_apart steps h hops is each.1 apart.1)

pub apart_inverses : (steps : ℕ) (hops : List Hop) → StepsIn steps hops → Apart hops → Apart (map (inverse_hop steps) hops)
apart_inverses steps [] each apart = tt
apart_inverses steps (h ∷ hops) each apart = (each_apart steps h hops each.0 each.1 apart.0, apart_inverses steps hops each.1 apart.1)

inverse_steps : (steps : ℕ) (hops : List Hop) → StepsIn steps hops → StepsIn steps (map (inverse_hop steps) hops)
inverse_steps steps hops each =
    each_map (λ h. IsStep steps h.step) (λ h. IsStep steps h.step) (inverse_hop steps) (λ h is. record { from = omega (arith, is.from, is.to); to = omega (arith, is.from, is.to) }) hops each

inverse_below : (steps chunks nodes : ℕ) (hops : List Hop) → AllByRecursion (λ h. is_hop_below chunks nodes h ≡ true) hops → AllByRecursion (λ h. is_hop_below chunks nodes h ≡ true) (map (inverse_hop steps) hops)
inverse_below steps chunks nodes [] each = tt
inverse_below steps chunks nodes (h ∷ hops) each = grind (arith, inverse_below steps chunks nodes hops each.1)

-- ---- whole schedules

pub pairs_from_InOrder : (hops : List Hop) → InOrder hop_before hops → AllPairs (λ a b. hop_before a b ≡ true) hops
pairs_from_InOrder [] order i j d low high = absurd (omega arith)
pairs_from_InOrder (h ∷ hops) order zero zero d low high = absurd (omega arith)
pairs_from_InOrder (h ∷ hops) order zero (suc j) d low high = All-from_recursion (λ y. hop_before h y ≡ true) hops order.0 j d (omega arith)
pairs_from_InOrder (h ∷ hops) order (suc i) zero d low high = absurd (omega arith)
pairs_from_InOrder (h ∷ hops) order (suc i) (suc j) d low high = pairs_from_InOrder hops order.1 i j d (omega arith) (omega arith)

pub steps_of : (s : ScheduleValue) → IsSchedule s → StepsIn (length s.rounds) s.sends
steps_of s valid = recursion_from_All (λ h. IsStep (length s.rounds) h.step) s.sends valid.steps

order_of : (s : ScheduleValue) → IsSchedule s → InOrder hop_before s.sends
order_of s valid = InOrder-from_pairs hop_before s.sends valid.ascending

inverse_order : (s : ScheduleValue) → IsSchedule s → InOrder hop_before (inverse_of s).sends
inverse_order s valid = ascends (map (inverse_hop (length s.rounds)) s.sends) (apart_inverses (length s.rounds) s.sends (steps_of s valid) (ascending_apart s.sends (order_of s valid)))

pub valid_inverse : (s : ScheduleValue) → IsSchedule s → IsSchedule (inverse_of s)
valid_inverse s valid =
    let steps = length s.rounds in
    let as_long : length (reverse s.rounds) ≡ steps = length-reverse s.rounds in
    let each : StepsIn steps (inverse_of s).sends = each_in_order (λ h. IsStep steps h.step) (map (inverse_hop steps) s.sends) (inverse_steps steps s.sends (steps_of s valid)) in
    record {
      some = omega (arith, as_long, valid.some);
      few = omega (arith, as_long, valid.few);
      rounds = All-permutation IsRound s.rounds (reverse s.rounds) (IsPermutation-reverse s.rounds) valid.rounds;
      steps = subst (λ n. All (λ h. IsStep n h.step) (inverse_of s).sends) (sym as_long) (All-from_recursion (λ h. IsStep steps h.step) (inverse_of s).sends each);
      ascending = pairs_from_InOrder (inverse_of s).sends (inverse_order s valid);
    }

pub inverse_in_range : (chunks nodes : ℕ) (s : ScheduleValue) → IsInRange chunks nodes s → IsInRange chunks nodes (inverse_of s)
inverse_in_range chunks nodes s in_range =
    All-from_recursion (λ h. is_hop_below chunks nodes h ≡ true) (inverse_of s).sends (each_in_order (λ h. is_hop_below chunks nodes h ≡ true) (map (inverse_hop (length s.rounds)) s.sends) (inverse_below (length s.rounds) chunks nodes s.sends (recursion_from_All (λ h. is_hop_below chunks nodes h ≡ true) s.sends in_range)))

pub same_rounds : (s : ScheduleValue) → (length (inverse_of s).rounds ≡ length s.rounds) × (sum (inverse_of s).rounds ≡ sum s.rounds)
same_rounds s = (length-reverse s.rounds, sum_by-IsPermutation (λ x. x) s.rounds (reverse s.rounds) (IsPermutation-reverse s.rounds))

-- ---- the inverse of the inverse

inverse_among : (s : ScheduleValue) (h : Hop) → Among h s.sends → Among (inverse_hop (length s.rounds) h) (inverse_of s).sends
inverse_among s h among = among_in_order (inverse_hop (length s.rounds) h) (map (inverse_hop (length s.rounds)) s.sends) (among_map (inverse_hop (length s.rounds)) h s.sends among)

among_inverse : (s : ScheduleValue) (h : Hop) → Among h (inverse_of s).sends → (o : Hop) × Among o s.sends × (inverse_hop (length s.rounds) o ≡ h)
among_inverse s h among = map_among (inverse_hop (length s.rounds)) h s.sends (in_order_among h (map (inverse_hop (length s.rounds)) s.sends) among)

pub step_is : (s : ScheduleValue) (h : Hop) → IsSchedule s → Among h s.sends → IsStep (length s.rounds) h.step
step_is s h valid among = among_each (λ h. IsStep (length s.rounds) h.step) h s.sends (steps_of s valid) among

there_and_back : (s : ScheduleValue) → IsSchedule s → Within s.sends (inverse_of (inverse_of s)).sends
there_and_back s valid h among =
    let steps = length s.rounds in
    let twice = inverse_among (inverse_of s) (inverse_hop steps h) (inverse_among s h among) in
    let same : inverse_hop (length (inverse_of s).rounds) (inverse_hop steps h) ≡ h = ap (λ n. inverse_hop n (inverse_hop steps h)) (length-reverse s.rounds) ∙ back_again steps h (step_is s h valid among) in
    subst (λ x. Among x (inverse_of (inverse_of s)).sends) same twice

back_and_there : (s : ScheduleValue) → IsSchedule s → Within (inverse_of (inverse_of s)).sends s.sends
back_and_there s valid h among =
    let steps = length s.rounds in
    let first = among_inverse (inverse_of s) h among in
    let second = among_inverse s first.0 first.1 in
    let same : second.0 ≡ h =
    sym (back_again steps second.0 (step_is s second.0 valid second.1))
    ∙ (ap (inverse_hop steps) second.2
    ∙ (ap (λ n. inverse_hop n first.0) (sym (length-reverse s.rounds)) ∙ first.2)) in
    subst (λ x. Among x s.sends) same second.1

pub inverse_inverse : (s : ScheduleValue) → IsSchedule s → inverse_of (inverse_of s) ≡ s
inverse_inverse s valid =
    let sends : (inverse_of (inverse_of s)).sends ≡ s.sends = one_order (inverse_of (inverse_of s)).sends s.sends (inverse_order (inverse_of s) (valid_inverse s valid)) (order_of s valid) (back_and_there s valid) (there_and_back s valid) in
    ap (λ hops. record { rounds = reverse (reverse s.rounds); sends = hops }) sends
    ∙ ap (λ rounds. record { rounds = rounds; sends = s.sends }) (reverse-reverse s.rounds)
