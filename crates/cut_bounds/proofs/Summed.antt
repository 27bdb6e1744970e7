-- Whatever its steps, a schedule that sums sends each chunk that a set of nodes does not demand out of the set, so over the links turned round what has to come in can.
use Rattle.std.proofs.Common.{◌≡◌, ℕ, zero, suc, ◌+◌, ◌*◌, ◌<◌, ◌≤◌, ◌⊎◌, Bool, true, false, ◌&&◌, cond, List, [], ◌∷◌, length, get_or, map, refl, sym, ap, ◌∙◌, inl, inr, ⊎_elim, subst, arith, ◌==◌, count_by, filter, fold, nat_le, nat_lt, not}
use Rattle.std.proofs.lemmas.{List.{Elements.{All-from_recursion, recursion_from_All}, FromFn.get_or-map-range_with_len}, Bool.{cases_Bool, and_parts, and_from, both_ways, not_from_false, not-true, eqb-true, eq-eqb, le-leb, lt-ltb}}
use Rattle.std.{proofs.lemmas.{List.Sums.sum_by-cons, Bool.Decides.nat_tests}, specs.List.AllByRecursion}
use Rattle.schedule.specs.{declared.hop.Hop.Hop, Links.{GroupValue, TopologyValue, has_link, is_usable, reversed_group, reversed_of}, Rows.everywhere, Sends.{ScheduleValue, link_of}, Placed.{PlacementValue, all_pairs, holds, same_pair}}
use Rattle.schedule.specs.{Fitting.{Fits, load, rounds_at}, Bags.{Bag, Bags, added, contributions, one_of_each}, Summing.{Sums, bags_after, goes_to}}
use Rattle.schedule.proofs.{First.{Among, among_each, among_map, any_among, any_found, each_filter, filter_among}, Ordered.{IsCell, among_from_any, grid_cells}, Placing.pair_is, Turning.{turned_usable, turned_has, one_if}}
use Rattle.inversion.specs.Reductions.{HeldBySome}
use Rattle.node_cuts.{specs.{declared.sets.Sets.Sets, Sides.NodeSet, Cuts.{enters, is_needed, need_of, stands_in, width_by}}, proofs.Crossing.{Enters, later, sends_of_their_own}}

-- ---- the sends turned round, each in its step

abbrev turned_hop : Hop → Hop
turned_hop h = record { chunk = h.chunk; from = h.to; to = h.from; step = h.step }

abbrev with_turned : ScheduleValue → ScheduleValue
with_turned s = record { rounds = s.rounds; sends = map turned_hop s.sends }

each_usable : (t : TopologyValue) (hops : List Hop) → AllByRecursion (λ h. is_usable t (link_of h) ≡ true) hops → AllByRecursion (λ h. is_usable (reversed_of t) (link_of h) ≡ true) (map turned_hop hops)
each_usable t [] each = tt
each_usable t (h ∷ hops) each = (turned_usable t.groups (h.to, h.from) ∙ each.0, each_usable t hops each.1)

turned_load : (group : GroupValue) (step : ℕ) (hops : List Hop) → load (reversed_group group) step (map turned_hop hops) ≡ load group step hops
turned_load group step [] = refl
turned_load group step (h ∷ hops) =
    let now : Hop → Bool = λ h. h.step == step && has_link group (link_of h) in
    let back : Hop → Bool = λ h. h.step == step && has_link (reversed_group group) (link_of h) in
    let rest : count_by back (map turned_hop hops) ≡ count_by now hops = turned_load group step hops in
    let here : one_if (back (turned_hop h)) ≡ one_if (now h) = ap (λ b. one_if (h.step == step && b)) (turned_has group (h.to, h.from)) in
    let left : count_by back (turned_hop h ∷ map turned_hop hops) ≡ one_if (back (turned_hop h)) + count_by back (map turned_hop hops) = sum_by-cons (λ x. cond (back x) 1 0) (turned_hop h) (map turned_hop hops) in
    let right : count_by now (h ∷ hops) ≡ one_if (now h) + count_by now hops = sum_by-cons (λ x. cond (now x) 1 0) h hops in
    omega (arith, rest, here, left, right)

each_within : (s : ScheduleValue) (step : ℕ) (groups : List GroupValue) → AllByRecursion (λ group. load group step s.sends ≤ group.width * rounds_at s step) groups
    → AllByRecursion (λ group. load group step (with_turned s).sends ≤ group.width * rounds_at (with_turned s) step) (map reversed_group groups)
each_within s step [] each = tt
each_within s step (g ∷ groups) each = (rw (turned_load g step s.sends) each.0, each_within s step groups each.1)

fits_turned : (t : TopologyValue) (s : ScheduleValue) → Fits t s → Fits (reversed_of t) (with_turned s)
fits_turned t s fits = record {
  usable = All-from_recursion (λ h. is_usable (reversed_of t) (link_of h) ≡ true) (with_turned s).sends (each_usable t s.sends (recursion_from_All (λ h. is_usable t (link_of h) ≡ true) s.sends fits.usable));
  within = λ step from to.
      All-from_recursion (λ group. load group step (with_turned s).sends ≤ group.width * rounds_at (with_turned s) step) (reversed_of t).groups
      (each_within s step t.groups (recursion_from_All (λ group. load group step s.sends ≤ group.width * rounds_at s step) t.groups (fits.within step from to)));
}

-- ---- what a bag counts stood in it before, or came in a bag

added_some : (a b : Bag) (m : ℕ) → 0 < get_or (added a b) m 0 → (0 < get_or a m 0) ⊎ (0 < get_or b m 0)
added_some [] b m some = absurd (omega arith)
added_some (x ∷ a) [] m some = absurd (omega arith)
added_some (x ∷ a) (y ∷ b) zero some = grind (arith, nat_tests)
added_some (x ∷ a) (y ∷ b) (suc m) some = added_some a b m some

-- one of the sends brings a bag that counts the node
abbrev Brings : Bags → ℕ → List Hop → Type 0
Brings before m hops = (h : Hop) × Among h hops × (0 < get_or (before (h.chunk, h.from)) m 0)

came_from : (before : Bags) (m : ℕ) (hops : List Hop) (bag : Bag) → 0 < get_or (fold added bag (map (λ h. before (h.chunk, h.from)) hops)) m 0 → (0 < get_or bag m 0) ⊎ Brings before m hops
came_from before m [] bag some = inl some
came_from before m (h ∷ hops) bag some =
    ⊎_elim
    (λ (there : 0 < get_or (added bag (before (h.chunk, h.from))) m 0).
    ⊎_elim (λ (stood : 0 < get_or bag m 0). inl stood) (λ (came : 0 < get_or (before (h.chunk, h.from)) m 0). inr (h, inl refl, came)) (added_some bag (before (h.chunk, h.from)) m there))
    (λ (rest : Brings before m hops). inr (rest.0, inr rest.1, rest.2))
    (came_from before m hops (added bag (before (h.chunk, h.from))) some)

-- ---- what is counted outside a set was sent out of it

module _ (u : NodeSet) (s : ScheduleValue) (nodes m : ℕ) (inside : m < nodes) (member : u m ≡ true) where
  abbrev pub counted : ℕ → ℕ → ℕ → ℕ
  counted n chunk node = get_or (bags_after (contributions nodes) s.sends n (chunk, node)) m 0

  -- at the start a node counts only itself
  itself : (chunk node : ℕ) → 0 < counted 0 chunk node → m ≡ node
  itself chunk node some = grind (arith, nat_tests, one_if, get_or-map-range_with_len, eqb-true, cases_Bool)

  pub sent_out : (n chunk node : ℕ) → u node ≡ false → 0 < counted n chunk node → Enters u (with_turned s) n chunk
  sent_out zero chunk node outside some = absurd (both_ways (u node) outside (ap u (sym (itself chunk node some)) ∙ member))
  sent_out (suc n) chunk node outside some =
      let before : Bags = bags_after (contributions nodes) s.sends n in
      let test : Hop → Bool = goes_to (n + 1) (chunk, node) in
      ⊎_elim
      (λ (stood : 0 < counted n chunk node). later u (with_turned s) n chunk (sent_out n chunk node outside stood))
      (λ (came : Brings before m (filter test s.sends)).
      let h : Hop = came.0 in
      let kept = filter_among test h s.sends came.1 in
      let parts = and_parts (h.step == n + 1) (same_pair (h.chunk, h.to) (chunk, node)) kept.1 in
      let step_is : h.step ≡ n + 1 = eqb-true h.step (n + 1) parts.0 in
      let same : (h.chunk, h.to) ≡ (chunk, node) = pair_is (h.chunk, h.to) (chunk, node) parts.1 in
      let chunk_is : h.chunk ≡ chunk = ap (λ (pair : ℕ × ℕ). pair.0) same in
      let to_is : h.to ≡ node = ap (λ (pair : ℕ × ℕ). pair.1) same in
      ⊎_elim
      (λ (within : u h.from ≡ true). record {
        hop = turned_hop h;
        sent = among_map turned_hop h s.sends kept.0;
        chunk_is = chunk_is;
        inside = and_from (nat_lt 0 h.step) (nat_le h.step (suc n) && enters u (h.to, h.from)) (lt-ltb 0 h.step (omega (arith, step_is)))
            (and_from (nat_le h.step (suc n)) (enters u (h.to, h.from)) (le-leb h.step (suc n) (omega (arith, step_is)))
            (and_from (not (u h.to)) (u h.from) (not_from_false (u h.to) (ap u to_is ∙ outside)) within));
      })
      (λ (beyond : u h.from ≡ false).
      later u (with_turned s) n chunk (subst (λ c. Enters u (with_turned s) n c) chunk_is (sent_out n h.chunk h.from beyond came.2)))
      (cases_Bool (u h.from)))
      (came_from before m (filter test s.sends) (before (chunk, node)) some)

-- ---- so each chunk that has to come in is sent out

pub sums_bring : (sets : Sets) (u : NodeSet) (t : TopologyValue) (demand : PlacementValue) (s : ScheduleValue) (steps rounds : ℕ) → demand.nodes ≡ t.nodes → HeldBySome demand → Sums t demand s steps rounds
    → need_of u demand (everywhere demand.chunks demand.nodes) ≤ width_by sets u (reversed_of t) * rounds
sums_bring sets u t demand s steps rounds nodes_are some sums =
    sends_of_their_own sets u (reversed_of t) (with_turned s) rounds demand.chunks (is_needed u demand all) (fits_turned t s sums.fits) sums.rounds_are sent
  where
    all : PlacementValue
    all = everywhere demand.chunks demand.nodes

    Ends : ℕ × ℕ → Type 0
    Ends pair = bags_after (contributions t.nodes) s.sends (length s.rounds) pair ≡ one_of_each t.nodes

    ends : (pair : ℕ × ℕ) → holds demand pair ≡ true → Ends pair
    ends pair held = among_each Ends pair demand.pairs (recursion_from_All Ends demand.pairs sums.sums) (among_from_any pair demand.pairs held)

    counts : (m : ℕ) (pair : ℕ × ℕ) → m < t.nodes → Ends pair → get_or (bags_after (contributions t.nodes) s.sends (length s.rounds) pair) m 0 ≡ 1
    counts m pair below is = ap (λ b. get_or b m 0) is ∙ get_or-map-range_with_len (λ _. 1) 0 t.nodes m m 0 below (omega arith)

    stands : (chunk node : ℕ) → holds demand (chunk, node) ≡ true → u node ≡ true → stands_in u demand chunk ≡ true
    stands chunk node held member =
        any_among (λ pair. pair.0 == chunk && u pair.1) (chunk, node) demand.pairs (among_from_any (chunk, node) demand.pairs held) (and_from (chunk == chunk) (u node) (eq-eqb chunk chunk refl) member)

    sent : (chunk : ℕ) → is_needed u demand all chunk ≡ true → Enters u (with_turned s) (length s.rounds) chunk
    sent chunk needed =
        let parts = and_parts (stands_in u all chunk) (not (stands_in u demand chunk)) needed in
        let found = any_found (λ pair. pair.0 == chunk && u pair.1) all.pairs parts.0 in
        let pair : ℕ × ℕ = found.0 in
        let both = and_parts (pair.0 == chunk) (u pair.1) found.2 in
        let chunk_is : pair.0 ≡ chunk = eqb-true pair.0 chunk both.0 in
        let cell : IsCell 0 demand.chunks demand.nodes pair = among_each (IsCell 0 demand.chunks demand.nodes) pair all.pairs (each_filter (IsCell 0 demand.chunks demand.nodes) (λ pair. true) (all_pairs demand.chunks demand.nodes) (grid_cells 0 demand.chunks demand.nodes)) found.1 in
        let root = some chunk (omega (arith, cell.to, chunk_is)) in
        let below : pair.1 < t.nodes = omega (arith, cell.column, nodes_are) in
        let one = counts pair.1 (chunk, root.0) below (ends (chunk, root.0) root.2) in
        ⊎_elim
        (λ (member : u root.0 ≡ true). absurd (both_ways (stands_in u demand chunk) (not-true (stands_in u demand chunk) parts.1) (stands chunk root.0 root.2 member)))
        (λ (outside : u root.0 ≡ false). sent_out u s t.nodes pair.1 below both.1 (length s.rounds) chunk root.0 outside (omega (arith, one)))
        (cases_Bool (u root.0))
