-- A schedule fits the links turned round exactly where its inverse fits the links.
use Rattle.std.proofs.{Common.{◌≡◌, ℕ, ◌+◌, ◌-◌, ◌*◌, ◌<◌, ◌≤◌, Bool, true, ◌&&◌, cond, eqb, List, [], ◌∷◌, length, get_or, map, refl, sym, ap, ◌∙◌, arith, ◌↔◌, count_by}, lemmas.List.{length-reverse, get_or-reverse}}
use Rattle.std.{proofs.lemmas.List.{Elements.{All-from_recursion, recursion_from_All}, Sums.sum_by-cons, Sorted.sum_by-IsPermutation}, specs.List.{AllByRecursion, list_any}}
use Rattle.schedule.specs.{declared.hop.Hop.Hop, Links.{GroupValue, TopologyValue, has_link, is_usable, reversed_group, reversed_of, turned}, Placed.same_pair, Sends.{ScheduleValue, IsSchedule, IsStep, link_of}}
use Rattle.schedule.{specs.{Fitting.{Fits, load, rounds_at}, Inverse.{in_order, inverse_hop, inverse_of}}, proofs.{HopOrder.{each_in_order, in_order_permutes}, Inverting.{inverse_inverse, valid_inverse}, Reversing.reversed_twice}}

-- ---- links turned round

turned_link : (links : List (ℕ × ℕ)) (link : ℕ × ℕ) → list_any (same_pair link) (map turned links) ≡ list_any (same_pair (turned link)) links
turned_link [] link = refl
turned_link (l ∷ links) link = grind (arith, turned_link links link)

pub turned_has : (group : GroupValue) (link : ℕ × ℕ) → has_link (reversed_group group) link ≡ has_link group (turned link)
turned_has group link = turned_link group.links link

pub turned_usable : (groups : List GroupValue) (link : ℕ × ℕ) → list_any (λ group. has_link group link) (map reversed_group groups) ≡ list_any (λ group. has_link group (turned link)) groups
turned_usable [] link = refl
turned_usable (g ∷ groups) link = grind (arith, turned_has, turned_usable groups link)

-- ---- how many sends pass a test

abbrev pub one_if : Bool → ℕ
one_if passes = cond passes 1 0

counted_in_order : (p : Hop → Bool) (hops : List Hop) → count_by p (in_order hops) ≡ count_by p hops
counted_in_order p hops = sum_by-IsPermutation (λ h. one_if (p h)) hops (in_order hops) (in_order_permutes hops)

-- the sends that pass a test and those whose images pass another
counted_images : (p q : Hop → Bool) (f : Hop → Hop) (hops : List Hop) → AllByRecursion (λ h. p (f h) ≡ q h) hops → count_by p (map f hops) ≡ count_by q hops
counted_images p q f [] same = refl
counted_images p q f (h ∷ hops) same =
    omega (arith, ap one_if same.0, counted_images p q f hops same.1, sum_by-cons (λ x. one_if (p x)) (f h) (map f hops), sum_by-cons (λ x. one_if (q x)) h hops)

-- ---- loads and rounds

pub same_turn : (steps i step : ℕ) → 0 < i → i ≤ steps → IsStep steps step → eqb (steps + 1 - step) i ≡ eqb step (steps + 1 - i)
same_turn steps i step from to is = grind arith

each_turned : (steps i : ℕ) (group : GroupValue) (hops : List Hop) → 0 < i → i ≤ steps → AllByRecursion (λ h. IsStep steps h.step) hops → AllByRecursion (λ h. (eqb (inverse_hop steps h).step i && has_link group (link_of (inverse_hop steps h))) ≡ (eqb h.step (steps + 1 - i) && has_link (reversed_group group) (link_of h))) hops
each_turned steps i group [] from to each = tt
each_turned steps i group (h ∷ hops) from to each = grind (arith, same_turn, turned_has, each_turned steps i group hops from to each.1)

turned_load : (s : ScheduleValue) (i : ℕ) (group : GroupValue) → IsSchedule s → 0 < i → i ≤ length s.rounds → load group i (inverse_of s).sends ≡ load (reversed_group group) (length s.rounds + 1 - i) s.sends
turned_load s i group valid from to =
    let steps = length s.rounds in
    let test : Hop → Bool = λ h. eqb h.step i && has_link group (link_of h) in
    counted_in_order test (map (inverse_hop steps) s.sends)
    ∙ counted_images test (λ h. eqb h.step (steps + 1 - i) && has_link (reversed_group group) (link_of h)) (inverse_hop steps) s.sends (each_turned steps i group s.sends from to (recursion_from_All (λ h. IsStep steps h.step) s.sends valid.steps))

turned_rounds : (s : ScheduleValue) (i : ℕ) → 0 < i → i ≤ length s.rounds → rounds_at (inverse_of s) i ≡ rounds_at s (length s.rounds + 1 - i)
turned_rounds s i from to =
    let place : length s.rounds - 1 - (i - 1) ≡ length s.rounds + 1 - i - 1 = omega arith in
    get_or-reverse s.rounds (i - 1) 0 (omega arith) ∙ ap (λ k. get_or s.rounds k 0) place

each_usable : (t : TopologyValue) (steps : ℕ) (hops : List Hop) → AllByRecursion (λ h. is_usable (reversed_of t) (link_of h) ≡ true) hops → AllByRecursion (λ h. is_usable t (link_of h) ≡ true) (map (inverse_hop steps) hops)
each_usable t steps [] each = tt
each_usable t steps (h ∷ hops) each = (sym (turned_usable t.groups (h.from, h.to)) ∙ each.0, each_usable t steps hops each.1)

each_within : (s : ScheduleValue) (i : ℕ) (groups : List GroupValue) → IsSchedule s → 0 < i → i ≤ length s.rounds → AllByRecursion (λ group. load group (length s.rounds + 1 - i) s.sends ≤ group.width * rounds_at s (length s.rounds + 1 - i)) (map reversed_group groups) → AllByRecursion (λ group. load group i (inverse_of s).sends ≤ group.width * rounds_at (inverse_of s) i) groups
each_within s i [] valid from to each = tt
each_within s i (g ∷ groups) valid from to each = grind (arith, turned_load s i g valid from to, turned_rounds s i from to, each_within s i groups valid from to each.1)

pub fits_turned : (t : TopologyValue) (s : ScheduleValue) → IsSchedule s → Fits (reversed_of t) s → Fits t (inverse_of s)
fits_turned t s valid fits = record {
  usable = All-from_recursion (λ h. is_usable t (link_of h) ≡ true) (inverse_of s).sends (each_in_order (λ h. is_usable t (link_of h) ≡ true) (map (inverse_hop (length s.rounds)) s.sends) (each_usable t (length s.rounds) s.sends (recursion_from_All (λ h. is_usable (reversed_of t) (link_of h) ≡ true) s.sends fits.usable)));
  within = λ i from to.
      let below : i ≤ length s.rounds = omega (arith, to, length-reverse s.rounds) in
      let k = length s.rounds + 1 - i in
      All-from_recursion (λ group. load group i (inverse_of s).sends ≤ group.width * rounds_at (inverse_of s) i) t.groups (each_within s i t.groups valid from below (recursion_from_All (λ group. load group k s.sends ≤ group.width * rounds_at s k) (map reversed_group t.groups) (fits.within k (omega arith) (omega arith))));
}

pub fits_both_ways : (t : TopologyValue) (s : ScheduleValue) → IsSchedule s → Fits (reversed_of t) s ↔ Fits t (inverse_of s)
fits_both_ways t s valid = grind (arith, fits_turned t s valid, fits_turned (reversed_of t) (inverse_of s) (valid_inverse s valid), reversed_twice t, inverse_inverse s valid)
