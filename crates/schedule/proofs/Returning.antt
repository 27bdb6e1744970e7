-- The bags of an inverse's run, count by count: a step gives each sender back what its receivers had.
use Rattle.std.proofs.{Common.{◌≡◌, ℕ, zero, suc, ◌+◌, ◌-◌, ◌<◌, ◌≤◌, Bool, ◌&&◌, eqb, List, [], ◌∷◌, length, map, get_or, refl, sym, ap, ◌∙◌, subst, arith, filter, fold, sum_by}, lemmas.List.{Elements.recursion_from_All, Sums.sum_by-cons}}
use Rattle.std.{proofs.{lemmas.List.Sorted.sum_by-IsPermutation, Math.Bool.and_assoc}, specs.List.AllByRecursion}
use Rattle.list_laws.proofs.Tests.{if_so}
use Rattle.schedule.specs.{declared.hop.Hop.Hop, Sends.{ScheduleValue, IsSchedule, IsStep}, Bags.{Bag, Bags, added, contributions}, Summing.{bags_after, goes_to}, Inverse.{in_order, inverse_hop, inverse_of}}
use Rattle.schedule.proofs.{Bagging.{counted_after, counted_sum}, Spreading.spread, Turning.same_turn, HopOrder.in_order_permutes}

-- ---- counts of sums of bags

count_added : (a b : Bag) (m : ℕ) → m < length a → m < length b → get_or (added a b) m 0 ≡ get_or a m 0 + get_or b m 0
count_added [] b m first second = absurd (omega arith)
count_added (x ∷ a) [] m first second = absurd (omega arith)
count_added (x ∷ a) (y ∷ b) zero first second = refl
count_added (x ∷ a) (y ∷ b) (suc m) first second = count_added a b m (omega arith) (omega arith)

-- the count of one node in the bag before that a send brings
abbrev brought : Bags → ℕ → Hop → ℕ
brought before m h = get_or (before (h.chunk, h.from)) m 0

count_fold : (nodes m : ℕ) (before : Bags) → ((pair : ℕ × ℕ) → length (before pair) ≡ nodes) → m < nodes → (hops : List Hop) (bag : Bag) → length bag ≡ nodes → get_or (fold added bag (map (λ h. before (h.chunk, h.from)) hops)) m 0 ≡ get_or bag m 0 + sum_by (brought before m) hops
count_fold nodes m before counted below [] bag is = omega arith
count_fold nodes m before counted below (h ∷ hops) bag is =
    let it : Bag = before (h.chunk, h.from) in
    omega (arith, count_fold nodes m before counted below hops (added bag it) (counted_sum nodes bag it is (counted (h.chunk, h.from))), count_added bag it m (omega (arith, is, below)) (omega (arith, counted (h.chunk, h.from), below)), sum_by-cons (brought before m) h hops)

-- ---- sums over sends in another order

sum_kept : (p : Hop → Bool) (f : Hop → ℕ) (hops : List Hop) → sum_by f (filter p hops) ≡ sum_by (λ h. if_so (p h) (f h)) hops
sum_kept p f [] = refl
sum_kept p f (h ∷ hops) = grind (arith, sum_kept p f hops, sum_by-cons (λ h. if_so (p h) (f h)) h hops, sum_by-cons f h (filter p hops))

sum_in_order : (f : Hop → ℕ) (hops : List Hop) → sum_by f (in_order hops) ≡ sum_by f hops
sum_in_order f hops = sum_by-IsPermutation f hops (in_order hops) (in_order_permutes hops)

sum_images : (f g : Hop → ℕ) (image : Hop → Hop) (hops : List Hop) → AllByRecursion (λ h. f (image h) ≡ g h) hops → sum_by f (map image hops) ≡ sum_by g hops
sum_images f g image [] same = refl
sum_images f g image (h ∷ hops) same =
    omega (arith, same.0, sum_images f g image hops same.1, sum_by-cons f (image h) (map image hops), sum_by-cons g h hops)

-- ---- one step of an inverse's run

-- the sends of a chunk in a step
abbrev pub sends_now : ℕ → ℕ → Hop → Bool
sends_now step chunk h = eqb h.step step && eqb h.chunk chunk

regrouped : (i k chunk v : ℕ) (steps : ℕ) (h : Hop) → eqb (steps + 1 - h.step) i ≡ eqb h.step k → goes_to i (chunk, v) (inverse_hop steps h) ≡ (sends_now k chunk h && eqb h.from v)
regrouped i k chunk v steps h same = ap (λ b. b && (eqb h.chunk chunk && eqb h.from v)) same ∙ sym (and_assoc (eqb h.step k) (eqb h.chunk chunk) (eqb h.from v))

-- the count before of the node's own bags of the chunk
abbrev pub own : Bags → ℕ → ℕ → ℕ → ℕ
own bags chunk m v = get_or (bags (chunk, v)) m 0

same_chunk : (before : Bags) (chunk m : ℕ) (step v : ℕ) (h : Hop) → if_so (sends_now step chunk h && eqb h.from v) (get_or (before (h.chunk, h.to)) m 0) ≡ if_so (sends_now step chunk h && eqb h.from v) (own before chunk m h.to)
same_chunk before chunk m step v h = grind (arith, if_so)

each_returned : (before : Bags) (steps i chunk m v : ℕ) (hops : List Hop) → 0 < i → i ≤ steps → AllByRecursion (λ h. IsStep steps h.step) hops → AllByRecursion (λ h. if_so (goes_to i (chunk, v) (inverse_hop steps h)) (brought before m (inverse_hop steps h)) ≡ if_so (sends_now (steps + 1 - i) chunk h && eqb h.from v) (own before chunk m h.to)) hops
each_returned before steps i chunk m v [] from to each = tt
each_returned before steps i chunk m v (h ∷ hops) from to each = grind (arith, if_so, regrouped, same_turn, same_chunk, each_returned before steps i chunk m v hops from to each.1)

-- the bags of the inverse's run after so many steps
abbrev pub returned : ℕ → ScheduleValue → ℕ → Bags
returned nodes s j = bags_after (contributions nodes) (inverse_of s).sends j

pub returned_more : (nodes m chunk v j : ℕ) (s : ScheduleValue) → IsSchedule s → m < nodes → j < length s.rounds → own (returned nodes s (suc j)) chunk m v ≡ own (returned nodes s j) chunk m v + spread (sends_now (length s.rounds - j) chunk) (own (returned nodes s j) chunk m) v s.sends
returned_more nodes m chunk v j s valid below inside =
    let steps = length s.rounds in
    let before : Bags = returned nodes s j in
    let test : Hop → Bool = goes_to (j + 1) (chunk, v) in
    let counts : own (returned nodes s (suc j)) chunk m v ≡ own before chunk m v + sum_by (brought before m) (filter test (inverse_of s).sends) = count_fold nodes m before (counted_after nodes (inverse_of s).sends j) below (filter test (inverse_of s).sends) (before (chunk, v)) (counted_after nodes (inverse_of s).sends j (chunk, v)) in
    let kept : sum_by (brought before m) (filter test (inverse_of s).sends) ≡ sum_by (λ h. if_so (test h) (brought before m h)) (inverse_of s).sends = sum_kept test (brought before m) (inverse_of s).sends in
    let unordered : sum_by (λ h. if_so (test h) (brought before m h)) (inverse_of s).sends ≡ sum_by (λ h. if_so (test h) (brought before m h)) (map (inverse_hop steps) s.sends) = sum_in_order (λ h. if_so (test h) (brought before m h)) (map (inverse_hop steps) s.sends) in
    let images : sum_by (λ h. if_so (test h) (brought before m h)) (map (inverse_hop steps) s.sends) ≡ spread (sends_now (steps + 1 - (j + 1)) chunk) (own before chunk m) v s.sends =
    sum_images (λ h. if_so (test h) (brought before m h)) (λ h. if_so (sends_now (steps + 1 - (j + 1)) chunk h && eqb h.from v) (own before chunk m h.to)) (inverse_hop steps) s.sends (each_returned before steps (j + 1) chunk m v s.sends (omega arith) (omega (arith, inside)) (recursion_from_All (λ h. IsStep steps h.step) s.sends valid.steps)) in
    let turn : steps + 1 - (j + 1) ≡ steps - j = omega arith in
    let whole : own (returned nodes s (suc j)) chunk m v ≡ own before chunk m v + spread (sends_now (steps + 1 - (j + 1)) chunk) (own before chunk m) v s.sends = omega (arith, counts, kept, unordered, images) in
    subst (λ k. own (returned nodes s (suc j)) chunk m v ≡ own before chunk m v + spread (sends_now k chunk) (own before chunk m) v s.sends) turn whole
