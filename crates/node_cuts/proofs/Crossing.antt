-- Whatever its steps, a schedule that solves brings each needed chunk into the set by a send of its own, so that they are no more than come in in its rounds.
use Rattle.std.proofs.Common.{◌≡◌, ℕ, zero, suc, ◌+◌, ◌-◌, ◌*◌, ◌<◌, ◌≤◌, Bool, true, false, ◌||◌, ◌&&◌, cond, List, [], ◌∷◌, length, get_or, take, refl, sym, ap, ◌∙◌, inl, inr, arith, Some, find, ◌==◌, count_by, not, nat_le, nat_lt, sum, ◌⊎◌}
use Rattle.std.proofs.{Math.Nat.mul-add, lemmas.{List.{take_all, get_or_past, Sums.sum_by_more}, Bool.{Decides.nat_tests, cases_Bool, cases_lt, or_cases, and_parts, and_from, both_ways, not-true, eq-eqb, eqb-true, ltb-true}}}
use Rattle.std.{proofs.lemmas.List.Elements.{All-get_or, recursion_from_All}, specs.{Option.{is_some, option_map}, List.{list_any, range_with_len}}}
use Rattle.list_laws.proofs.Tests.{find-map}
use Rattle.schedule.specs.{declared.hop.Hop.Hop, Links.{TopologyValue, is_usable}, Placed.{PlacementValue, holds, placed, all_pairs}, Solving.Solves, Sends.{ScheduleValue, link_of}, Running.after, Fitting.{Fits, load, rounds_at}}
use Rattle.schedule.{specs.Judging.group_at, proofs.{First.{Among, among_each, any_found, any_among, each_passes}, Ordered.among_from_any, Placing.pair_is}}
use Rattle.node_cuts.specs.{declared.sets.Sets.Sets, Sides.{NodeSet, node_sets}, Cuts.{stands_in, is_needed, need_of, enters, is_among, cover_by, width_by, CutValue, cut_of, first_cut_of}, inner.Refuting.cut_refutes}
use Rattle.node_cuts.proofs.{Counting.{counted, no_fewer, no_fewer_of, one_more, no_more_than_both, none_counted}, Covered.{covered, carried}}

-- what the placement of a test holds passes it
passes_placed : (chunks nodes : ℕ) (f : ℕ × ℕ → Bool) (pair : ℕ × ℕ) → holds (placed chunks nodes f) pair ≡ true → f pair ≡ true
passes_placed chunks nodes f pair held = grind (arith, among_each, each_passes f (all_pairs chunks nodes), among_from_any pair)

module _ (u : NodeSet) (s : ScheduleValue) where
  -- a send of one of the first steps, over a link into the set
  abbrev pub comes_in : ℕ → Hop → Bool
  comes_in n h = nat_lt 0 h.step && (nat_le h.step n && enters u (link_of h))

  comes_in_later : (n : ℕ) (h : Hop) → comes_in n h ≡ true → comes_in (suc n) h ≡ true
  comes_in_later n h in_time = grind (arith, nat_tests)

  comes_now : (n : ℕ) (h : Hop) → h.step ≡ n + 1 → u h.from ≡ false → u h.to ≡ true → comes_in (suc n) h ≡ true
  comes_now n h step_is outside member = grind (arith, nat_tests)

  -- some send of the chunk comes in
  pub record Enters (n chunk : ℕ) : Type 0 where
    pub hop : Hop
    pub sent : Among hop s.sends
    pub chunk_is : hop.chunk ≡ chunk
    pub inside : comes_in n hop ≡ true

  pub later : (n chunk : ℕ) → Enters n chunk → Enters (suc n) chunk
  later n chunk e = record { hop = e.hop; sent = e.sent; chunk_is = e.chunk_is; inside = comes_in_later n e.hop e.inside }

  -- what stands in the set after so many steps stood in it before all of them, or came in by a send
  arrives : (pre : PlacementValue) (n chunk node : ℕ) → u node ≡ true → holds (after pre s n) (chunk, node) ≡ true → (stands_in u pre chunk ≡ true) ⊎ Enters n chunk
  arrives pre zero chunk node member held = grind (arith, any_among, among_from_any (chunk, node), and_from (chunk == chunk), eq-eqb chunk chunk refl)
  arrives pre (suc n) chunk node member held = grind (arith, passes_placed, later n chunk, any_found, and_parts, pair_is, comes_now n, eqb-true, cases_Bool, or_cases, arrives pre n chunk node member, arrives pre n chunk)

  -- chunks that differ come by sends that differ
  by_sends_of_their_own : (n : ℕ) (p : ℕ → Bool) → ((chunk : ℕ) → p chunk ≡ true → Enters n chunk) → (a len : ℕ) → count_by p (range_with_len a len) ≤ count_by (λ h. nat_le a h.chunk && comes_in n h) s.sends
  by_sends_of_their_own n p enter a zero = omega arith
  by_sends_of_their_own n p enter a (suc len) = grind (arith, cases_Bool (p a), counted p a (range_with_len (a + 1) len), one_more, no_fewer, by_sends_of_their_own n p enter (a + 1) len)

  -- ---- what comes in in the first steps

  module _ (sets : Sets) (t : TopologyValue) (fits : Fits t s) where
    within : (step : ℕ) → 0 < step → step ≤ length s.rounds → (g : ℕ) → load (group_at t g) step s.sends ≤ (group_at t g).width * rounds_at s step
    within step from to g =
        elim (cases_lt g (length t.groups)) [
          | inl inside ↦ All-get_or (λ group. load group step s.sends ≤ group.width * rounds_at s step) t.groups g (record { links = []; width = 0 }) inside (fits.within step from to)
          | inr past ↦ omega (arith, ap (λ group. load group step s.sends) (get_or_past t.groups g (record { links = []; width = 0 }) past) ∙ none_counted (λ (h : Hop). h.step == step && false) (λ h both. grind (arith, both)) s.sends)
        ]

    in_first_steps : (n : ℕ) → n ≤ length s.rounds → count_by (comes_in n) s.sends ≤ width_by sets u t * sum (take n s.rounds)
    in_first_steps zero low =
        let none : count_by (comes_in 0) s.sends ≡ 0 = none_counted (comes_in 0) (λ (h : Hop) both. grind (arith, nat_tests, both)) s.sends in
        omega (arith, none)
    in_first_steps (suc n) low =
        let step : ℕ = n + 1 in
        let now : Hop → Bool = λ h. h.step == step && enters u (link_of h) in
        let split : count_by (comes_in (suc n)) s.sends ≤ count_by (comes_in n) s.sends + count_by now s.sends = no_more_than_both (comes_in (suc n)) (comes_in n) now (λ (h : Hop) both.
        grind (arith, nat_tests, both)) s.sends in
        let over : count_by now s.sends ≤ count_by (λ (h : Hop). now h && is_among t (cover_by sets u t) (link_of h)) s.sends = no_fewer_of (λ (h : Hop). is_usable t (link_of h) ≡ true) now (λ (h : Hop). now h && is_among t (cover_by sets u t) (link_of h)) (λ (h : Hop) usable it.
        let parts = and_parts (h.step == step) (enters u (link_of h)) it in
        and_from (now h) (is_among t (cover_by sets u t) (link_of h)) it (covered u t sets (link_of h) parts.1 usable)) s.sends (recursion_from_All (λ (h : Hop). is_usable t (link_of h) ≡ true) s.sends fits.usable) in
        let most : count_by (λ (h : Hop). now h && is_among t (cover_by sets u t) (link_of h)) s.sends ≤ width_by sets u t * rounds_at s step = carried t s step now (λ (h : Hop) it. eqb-true h.step step (and_parts (h.step == step) (enters u (link_of h)) it).0) (within step (omega arith) (omega (arith, low))) (cover_by sets u t) in
        let place : step - 1 ≡ n = omega arith in
        let one : suc n ≡ n + 1 = omega arith in
        let more : sum (take (suc n) s.rounds) ≡ sum (take n s.rounds) + rounds_at s step =
        ap (λ k. sum (take k s.rounds)) one ∙ sum_by_more (λ x. x) s.rounds n 0 (omega (arith, low)) ∙ ap (λ k. sum (take n s.rounds) + get_or s.rounds k 0) (sym place) in
        let product : width_by sets u t * sum (take (suc n) s.rounds) ≡ width_by sets u t * sum (take n s.rounds) + width_by sets u t * rounds_at s step = ap (λ k. width_by sets u t * k) more ∙ mul-add (width_by sets u t) (sum (take n s.rounds)) (rounds_at s step) in
        omega (arith, split, over, most, product, in_first_steps n (omega (arith, low)))

-- chunks that come in by some send each are no more than what can in all rounds
pub sends_of_their_own : (sets : Sets) (u : NodeSet) (t : TopologyValue) (s : ScheduleValue) (rounds chunks : ℕ) (p : ℕ → Bool) → Fits t s → sum s.rounds ≡ rounds → ((chunk : ℕ) → p chunk ≡ true → Enters u s (length s.rounds) chunk)
    → count_by p (range_with_len 0 chunks) ≤ width_by sets u t * rounds
sends_of_their_own sets u t s rounds chunks p fits rounds_are enter =
    let all : ℕ = length s.rounds in
    let fewer : count_by (λ h. nat_le 0 h.chunk && comes_in u s all h) s.sends ≤ count_by (comes_in u s all) s.sends = no_fewer (λ h. nat_le 0 h.chunk && comes_in u s all h) (comes_in u s all) (λ h it. (and_parts (nat_le 0 h.chunk) (comes_in u s all h) it).1) s.sends in
    let whole : width_by sets u t * sum (take all s.rounds) ≡ width_by sets u t * rounds = ap (λ k. width_by sets u t * k) (ap sum (take_all all s.rounds (omega arith)) ∙ rounds_are) in
    omega (arith, by_sends_of_their_own u s all p enter 0 chunks, fewer, in_first_steps u s sets t fits all (omega arith), whole)

-- what has to come in is no more than what can in the rounds of a schedule that solves
pub needed_comes_in : (sets : Sets) (u : NodeSet) (t : TopologyValue) (pre post : PlacementValue) (s : ScheduleValue) (steps rounds : ℕ) → Solves t pre post s steps rounds → need_of u pre post ≤ width_by sets u t * rounds
needed_comes_in sets u t pre post s steps rounds solves =
    let all : ℕ = length s.rounds in
    let enter : (chunk : ℕ) → is_needed u pre post chunk ≡ true → Enters u s all chunk = λ chunk needed.
    let parts = and_parts (stands_in u post chunk) (not (stands_in u pre chunk)) needed in
    let found = any_found (λ (pair : ℕ × ℕ). pair.0 == chunk && u pair.1) post.pairs parts.0 in
    let pair : ℕ × ℕ = found.0 in
    let both = and_parts (pair.0 == chunk) (u pair.1) found.2 in
    let held : holds (after pre s all) pair ≡ true = among_each (λ p. holds (after pre s all) p ≡ true) pair post.pairs (recursion_from_All (λ p. holds (after pre s all) p ≡ true) post.pairs solves.delivers) found.1 in
    let chunk_is : pair.0 ≡ chunk = eqb-true pair.0 chunk both.0 in
    elim (arrives u s pre all chunk pair.1 both.1 (ap (λ c. holds (after pre s all) (c, pair.1)) (sym chunk_is) ∙ held))
    [ inl stood ↦ absurd (both_ways (stands_in u pre chunk) (not-true (stands_in u pre chunk) parts.1) stood) | inr e ↦ e ] in
    sends_of_their_own sets u t s rounds post.chunks (is_needed u pre post) solves.fits solves.rounds_are enter

pub cut_says : (sets : Sets) (u : NodeSet) (t : TopologyValue) (pre post : PlacementValue) (s : ScheduleValue) (steps rounds : ℕ) → width_by sets u t * rounds < need_of u pre post → Solves t pre post s steps rounds → ⊥
cut_says sets u t pre post s steps rounds refutes solves = omega (arith, refutes, needed_comes_in sets u t pre post s steps rounds solves)

-- the first cut is that of the first set that refutes
pub first_by_set : (sets : Sets) (t : TopologyValue) (pre post : PlacementValue) (rounds : ℕ) → first_cut_of sets t pre post rounds ≡ option_map (cut_of sets t pre post) (find (λ u. cut_refutes sets u t pre post rounds) (node_sets sets t.nodes))
first_by_set sets t pre post rounds = find-map (λ (cut : CutValue). nat_lt (cut.width * rounds) cut.need) (cut_of sets t pre post) (node_sets sets t.nodes)

pub found_any : {X Y : Type 0} (f : X → Y) (p : X → Bool) (xs : List X) → is_some (option_map f (find p xs)) ≡ list_any p xs
found_any f p [] = refl
found_any f p (x ∷ xs) = elim (p x) as (λ b. is_some (option_map f (cond b (Some x) (find p xs))) ≡ (b || list_any p xs)) [ true ↦ refl | false ↦ found_any f p xs ]

-- where there is a first cut, no schedule of so many rounds solves
pub first_says : (sets : Sets) (t : TopologyValue) (pre post : PlacementValue) (s : ScheduleValue) (steps rounds : ℕ) → is_some (first_cut_of sets t pre post rounds) ≡ true → Solves t pre post s steps rounds → ⊥
first_says sets t pre post s steps rounds cut solves =
    let p : NodeSet → Bool = λ u. cut_refutes sets u t pre post rounds in
    let it = any_found p (node_sets sets t.nodes) (sym (ap is_some (first_by_set sets t pre post rounds) ∙ found_any (cut_of sets t pre post) p (node_sets sets t.nodes)) ∙ cut) in
    cut_says sets it.0 t pre post s steps rounds (ltb-true (width_by sets it.0 t * rounds) (need_of it.0 pre post) it.2) solves
