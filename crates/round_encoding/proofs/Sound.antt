-- What an assignment that satisfies the formula says is a tight schedule that solves the candidate.
use Rattle.std.proofs.Common.{◌≡◌, ℕ, ◌+◌, ◌-◌, ◌*◌, ◌<◌, ◌≤◌, Bool, true, List, [], ◌∷◌, map, length, get_or, ltb, refl, sym, ap, ◌∙◌, subst, ⊎_elim, arith, if◌then◌else◌, flat_map, nat_lt, All}
use Rattle.std.proofs.{lemmas.{Bool.{false≢true, and_from, cases_lt, lt-ltb}, List.{Elements.All-head, Sums.count_by-le-length, FromFn.{length-range_with_len, length-map-range_with_len}}}, Math.Nat.mul-le-mul_left}
use Rattle.std.specs.List.{range_with_len}
use Rattle.schedule.specs.{Links.{TopologyValue, GroupValue, IsTopology, is_usable, usable_links}, Placed.{PlacementValue, IsPlacement, all_pairs}, Sends.{ScheduleValue, IsSchedule, IsStep, IsInRange}, Fitting.{Fits, load, rounds_at}}
use Rattle.schedule.specs.Solving.{Solves, Tight}
use Rattle.cnf_formula.{specs.{Literals.{negation, is_true, clause_holds, all_hold}, Formulas.Satisfies}, proofs.Clauses.negation_is}
use Rattle.cardinality.{specs.Counting.true_inputs, proofs.Ranges.both_hold}
use Rattle.send_encoding.specs.{Variables.{SendMapValue, map_of, steps_of, arrival, sent}, Sending.sending, Moving.Moves, Telling.Tells}
use Rattle.send_encoding.proofs.{Mapped.links_join, Grid.rows_length, Members.kept, Decoded.sends_tell, Ascending.{links_ascend, sends_ascend}, Sound.{sending_says, flat_passes, map_passes, at_range, said_if}}
use Rattle.send_encoding.proofs.Tightened.{is_tight, delivers}
use Rattle.round_encoding.specs.{Frames.{Frame, frame_of, extra_round, own_variables}, Decoding.decoded, Rounding.{count_of_rounds, count_of_group, counts_in, counters_after, extra_in_order, formula_of}}
use Rattle.round_encoding.proofs.{Counted.all_counts, ExtraRounds.{extra_said, first_unused, rounds_many, rounds_sum, rounds_each, rounds_at_least}, Obeyed.{Obeys, counters_obeyed, all_split, all_flat, all_map}, Crossing.load_counted}

module _ (t : TopologyValue) (pre post : PlacementValue) (steps rounds : ℕ) (values : List Bool) (ok : IsTopology t) (nodes : pre.nodes ≡ t.nodes) (chunks : 0 < pre.chunks)
    (some : 0 < steps) (satisfied : Satisfies values (formula_of t pre post steps rounds)) where
  abbrev f : Frame
  f = frame_of t pre steps rounds

  abbrev m : SendMapValue
  m = map_of t pre steps

  abbrev s : ScheduleValue
  s = decoded f values

  parts : (all_hold values (sending m pre post) ≡ true) × (all_hold values (extra_in_order f) ≡ true) × (all_hold values (counters_after (own_variables f) (counts_in f t)).clauses ≡ true)
  parts = grind (arith, both_hold)

  obeyed : All (Obeys values) (if nat_lt 0 f.extra then count_of_rounds f ∷ [] else []) × All (Obeys values) (flat_map (λ k. map (count_of_group f k) t.groups) (steps_of m))
  obeyed =
      all_split (Obeys values) (if nat_lt 0 f.extra then count_of_rounds f ∷ [] else []) (flat_map (λ k. map (count_of_group f k) t.groups) (steps_of m))
      (counters_obeyed (own_variables f) values (own_variables f) (counts_in f t) (omega arith) (all_counts t pre steps rounds ok chunks some) parts.2)

  -- ---- rounds

  pub few_extra : true_inputs values (count_of_rounds f).inputs ≤ f.extra
  few_extra =
      ⊎_elim
      (λ less.
      let counts : All (Obeys values) (count_of_rounds f ∷ []) = subst (λ b. All (Obeys values) (if b then count_of_rounds f ∷ [] else [])) (lt-ltb 0 f.extra less) obeyed.0 in
      let it = All-head (Obeys values) (count_of_rounds f) [] counts in
      grind (arith, it.reached (f.extra + 1) (omega arith) (omega arith), it.said, negation_is values (it.outputs (f.extra + 1))))
      (λ not_less.
      let none : f.extra ≡ 0 = omega (arith, not_less) in
      let long : length (count_of_rounds f).inputs ≡ steps * f.extra = rows_length (λ k. map (extra_round f k) (range_with_len 1 f.extra)) f.extra 1 steps (λ k. length-map-range_with_len (extra_round f k) 1 f.extra) in
      let nothing : steps * f.extra ≡ steps * 0 = ap (λ e. steps * e) none in
      omega (arith, count_by-le-length (is_true values) (count_of_rounds f).inputs, long, nothing))
      (cases_lt 0 f.extra)

  in_order : (k j : ℕ) → IsStep steps k → 1 ≤ j → j + 1 < 1 + f.extra → is_true values (extra_round f k (j + 1)) ≡ true → is_true values (extra_round f k j) ≡ true
  in_order k j step low high h =
      let row : ℕ → ℕ → Type 0 = λ k j. clause_holds values (negation (extra_round f k (j + 1)) ∷ extra_round f k j ∷ []) ≡ true in
      let of_step = at_range (λ k. all_hold values (map (λ j. negation (extra_round f k (j + 1)) ∷ extra_round f k j ∷ []) (range_with_len 1 (f.extra - 1))) ≡ true) 1 steps k
      (flat_passes (clause_holds values) (λ k. map (λ j. negation (extra_round f k (j + 1)) ∷ extra_round f k j ∷ []) (range_with_len 1 (f.extra - 1))) (steps_of m) parts.1) (omega (arith, step.from)) (omega (arith, step.to)) in
      let clause = at_range (row k) 1 (f.extra - 1) j (map_passes (clause_holds values) (λ j. negation (extra_round f k (j + 1)) ∷ extra_round f k j ∷ []) (range_with_len 1 (f.extra - 1)) of_step) low (omega (arith, high)) in
      said_if values (extra_round f k (j + 1)) (extra_round f k j) clause h

  -- ---- bandwidth

  group_obeyed : (k : ℕ) → IsStep steps k → (i : ℕ) (d : GroupValue) → i < length t.groups → Obeys values (count_of_group f k (get_or t.groups i d))
  group_obeyed k step i d low =
      all_map (Obeys values) (count_of_group f k) t.groups
      (at_range (λ k. All (Obeys values) (map (count_of_group f k) t.groups)) 1 steps k (all_flat (Obeys values) (λ k. map (count_of_group f k) t.groups) (steps_of m) obeyed.1) (omega (arith, step.from)) (omega (arith, step.to))) i d low

  no_more : (k : ℕ) → IsStep steps k → (i : ℕ) (d : GroupValue) → i < length t.groups
      → (get_or t.groups i d).width * (1 + extra_said f values k) < true_inputs values (count_of_group f k (get_or t.groups i d)).inputs → ⊥
  no_more k step i d low over =
      let group = get_or t.groups i d in
      let it = group_obeyed k step i d low in
      let q : ℕ = extra_said f values k in
      let last : ℕ = group.width * (1 + f.extra) + 1 in
      let said = both_hold values (map (λ j. negation (it.outputs (group.width * j + 1)) ∷ extra_round f k j ∷ []) (range_with_len 1 f.extra)) ((negation (it.outputs last) ∷ []) ∷ []) it.said in
      let few : q ≤ f.extra = omega (arith, count_by-le-length (λ j. is_true values (extra_round f k j)) (range_with_len 1 f.extra), length-range_with_len 1 f.extra) in
      ⊎_elim
      (λ less.
      let up : group.width * (1 + q) ≤ group.width * (1 + f.extra) = mul-le-mul_left group.width (omega (arith, few)) in
      let reached = it.reached (group.width * (1 + q) + 1) (omega arith) (omega (arith, up)) (omega (arith, over)) in
      let clause = at_range (λ j. clause_holds values (negation (it.outputs (group.width * j + 1)) ∷ extra_round f k j ∷ []) ≡ true) 1 f.extra (1 + q)
      (map_passes (clause_holds values) (λ j. negation (it.outputs (group.width * j + 1)) ∷ extra_round f k j ∷ []) (range_with_len 1 f.extra) said.0) (omega arith) (omega (arith, less)) in
      let used = said_if values (it.outputs (group.width * (1 + q) + 1)) (extra_round f k (1 + q)) clause reached in
      let unused = first_unused (λ j. is_true values (extra_round f k j)) 1 f.extra (λ j from to h. in_order k j step from to h) less in
      false≢true (sym unused ∙ used))
      (λ not_less.
      let all : q ≡ f.extra = omega (arith, few, not_less) in
      let same : group.width * (1 + q) ≡ group.width * (1 + f.extra) = ap (λ e. group.width * (1 + e)) all in
      grind (arith, it.reached last (omega arith) (omega arith), said.1, negation_is values (it.outputs last), over, same))
      (cases_lt q f.extra)

  group_fits : (k : ℕ) → IsStep steps k → (i : ℕ) (d : GroupValue) → i < length t.groups → load (get_or t.groups i d) k s.sends ≤ (get_or t.groups i d).width * rounds_at s k
  group_fits k step i d low =
      let group = get_or t.groups i d in
      let counters_after = load_counted f values (links_join t pre steps) (links_ascend t) k group in
      let least : group.width * (1 + extra_said f values k) ≤ group.width * rounds_at s k = mul-le-mul_left group.width (rounds_at_least f values k step) in
      ⊎_elim (λ over. absurd (no_more k step i d low (omega (arith, over, counters_after, least)))) (λ fits. fits) (cases_lt (group.width * rounds_at s k) (load group k s.sends))

  -- ---- the schedule

  told : Tells m (λ c e k. is_true values (sent m c e k)) s.sends
  told = sends_tell m values (links_join t pre steps)

  moved : Moves m pre post (λ c n k. is_true values (arrival m c n k)) (λ c e k. is_true values (sent m c e k))
  moved = sending_says m pre post values parts.0

  is_usable_link : (i : ℕ) → i < length (usable_links t) → is_usable t (get_or (usable_links t) i (0, 0)) ≡ true
  is_usable_link i low = (kept (is_usable t) (λ l. Unit {0}) (all_pairs t.nodes t.nodes) (λ i d low. tt) i (0, 0) low).1

  steps_are : length s.rounds ≡ steps
  steps_are = rounds_many f values

  pub sound_fits : Fits t s
  sound_fits = record {
    usable = λ i d low. let it = told.told i d low in ap (is_usable t) (sym it.ends ∙ it.is_link.is) ∙ is_usable_link it.link.0 it.is_link.number;
    within = λ k from to i d low. group_fits k (record { from = from; to = omega (arith, to, steps_are) }) i d low;
  }

  pub sound_tight : Tight pre s
  sound_tight = is_tight m pre post (λ c n k. is_true values (arrival m c n k)) (λ c e k. is_true values (sent m c e k)) s refl nodes (links_join t pre steps) moved told (sends_ascend m values (links_ascend t))

  pub sound_range : IsInRange pre.chunks pre.nodes s
  sound_range = λ i d low.
      let h = get_or s.sends i d in
      let it = told.told i d low in
      let from : h.from < pre.nodes = omega (arith, it.is_link.from, ap (λ l. l.0) it.ends, nodes) in
      let to : h.to < pre.nodes = omega (arith, it.is_link.to, ap (λ l. l.1) it.ends, nodes) in
      and_from (ltb h.chunk pre.chunks) _ (lt-ltb h.chunk pre.chunks it.chunk) (and_from (ltb h.from pre.nodes) (ltb h.to pre.nodes) (lt-ltb h.from pre.nodes from) (lt-ltb h.to pre.nodes to))

  pub sound_schedule : steps ≤ 16 → rounds ≤ steps + 8 → IsSchedule s
  sound_schedule few high = record {
    some = omega (arith, some, steps_are);
    few = omega (arith, few, steps_are);
    rounds = rounds_each f values few_extra some (omega (arith, high));
    steps = λ i d low. let it = told.told i d low in record { from = it.step.from; to = omega (arith, it.step.to, steps_are) };
    ascending = sends_ascend m values (links_ascend t);
  }

  pub sound_solves : IsPlacement post → post.chunks ≡ pre.chunks → post.nodes ≡ pre.nodes → steps ≤ rounds → Solves t pre post s steps rounds
  sound_solves is_post post_chunks post_nodes low = record {
    steps_are = steps_are;
    rounds_are = rounds_sum f values few_extra some ∙ omega (arith, low);
    fits = sound_fits;
    delivers = delivers m pre post (λ c n k. is_true values (arrival m c n k)) (λ c e k. is_true values (sent m c e k)) s refl nodes (links_join t pre steps) moved told (sends_ascend m values (links_ascend t)) is_post post_chunks (post_nodes ∙ nodes) steps_are;
  }
