-- Where a schedule solves, the formula has a satisfying assignment whose arrivals are what the schedule's run holds.
use Rattle.std.proofs.Common.{◌≡◌, ℕ, zero, suc, ◌+◌, ◌-◌, ◌*◌, ◌<◌, ◌≤◌, Bool, true, false, List, [], ◌∷◌, ◌++◌, map, length, get_or, leb, sum, refl, sym, ap, ◌∙◌, subst, ⊎_elim, arith, flat_map, sum_by, All}
use Rattle.std.proofs.{lemmas.{Bool.{leb-true, le-leb, cases_lt, Decides.nat_tests}, List.{get_or-append-add, map-append, append-nil, FromFn.{get_or-map-range_with_len, length-map-range_with_len}}}, Math.Nat.mul-le-mul_left}
use Rattle.std.specs.List.{range_with_len}
use Rattle.schedule.specs.{Links.{TopologyValue, GroupValue, IsTopology}, Placed.PlacementValue, Sends.{ScheduleValue, IsSchedule, IsStep, IsInRange}, Fitting.rounds_at, Solving.Solves}
use Rattle.cnf_formula.{specs.{Literals.{LitValue, negation, is_true, clause_holds, all_hold}, Formulas.Satisfies}, proofs.Clauses.negation_is}
use Rattle.cardinality.{specs.Counting.true_inputs, proofs.{Ranges.hold_both, Wider.{clauses_same, old_is_same}}}
use Rattle.send_encoding.specs.{Variables.{SendMapValue, map_of, steps_of, arrival, sent, arrivals, sends, link_number}, Sending.sending, Leading.{had, brought}}
use Rattle.send_encoding.specs.Assigning.{arrival_values, send_values, extra_values, has_more_rounds, assigned}
use Rattle.send_encoding.proofs.{Everywhere.{From, in_range}, About.IsStepOf, Mapped.links_join, Grid.{rows_at, rows_length}, Assigned.{assigned_length, arrival_value, sent_value, own_length}, Scheduled.schedule_moves}
use Rattle.send_encoding.proofs.Complete.{sending_holds, if_true, passes_flat, passes_map, count_alike}
use Rattle.round_encoding.specs.{Frames.{Frame, frame_of, extra_round, own_variables}, Rounding.{count_of_rounds, count_of_group, counts_in, counters_after, extra_in_order, formula_of}}
use Rattle.round_encoding.proofs.{Extras.{sending_about, order_about, extra_about, arrival_about}, Counted.{all_counts, of_counts}, Counting.{Allows, counters_extend}, Loaded.{table_loads, cells, good_cells, Good}}
use Rattle.round_encoding.proofs.Rounds.{count_rounds, count_flat, beyond, no_fewer, one_step}

pub map_cells : {X Y : Type 0} (g : ℕ × X → Y) (xs : List X) (a n : ℕ) → flat_map (λ c. map (λ l. g (c, l)) xs) (range_with_len a n) ≡ map g (flat_map (λ c. map (λ l. (c, l)) xs) (range_with_len a n))
map_cells g xs a zero = refl
map_cells {X = X} g xs a (suc n) =
    let rest = flat_map (λ c. map (λ l. (c, l)) xs) (range_with_len (a + 1) n) in
    ap (λ r. map (λ l. g (a, l)) xs ++ r) (map_cells g xs (a + 1) n) ∙ ap (λ r. r ++ map g rest) (twice xs) ∙ sym (map-append g (map (λ l. (a, l)) xs) rest)
  where
    twice : (ys : List X) → map (λ l. g (a, l)) ys ≡ map g (map (λ l. (a, l)) ys)
    twice [] = refl
    twice (y ∷ ys) = ap (λ r. g (a, y) ∷ r) (twice ys)

module _ (t : TopologyValue) (pre post : PlacementValue) (s : ScheduleValue) (steps rounds : ℕ) (ok : IsTopology t) (nodes : pre.nodes ≡ t.nodes) (chunks : 0 < pre.chunks) (some : 0 < steps)
    (valid : IsSchedule s) (range : IsInRange pre.chunks pre.nodes s) (solves : Solves t pre post s steps rounds) where
  abbrev f : Frame
  f = frame_of t pre steps rounds

  abbrev m : SendMapValue
  m = map_of t pre steps

  abbrev a : ℕ → ℕ → ℕ → Bool
  a = had pre s

  abbrev x : ℕ → ℕ → ℕ → Bool
  x = brought m pre s

  abbrev rest : List Bool
  rest = extra_values steps f.extra (has_more_rounds s)

  abbrev own : List Bool
  own = assigned m a x rest

  own_is : length own ≡ own_variables f
  own_is = assigned_length m a x rest ∙ omega (arith, rows_length (λ k. map (has_more_rounds s k) (range_with_len 1 f.extra)) f.extra 1 steps (λ k. length-map-range_with_len (has_more_rounds s k) 1 f.extra))

  extra_value : (k j : ℕ) → IsStep steps k → IsStep f.extra j → is_true own (extra_round f k j) ≡ has_more_rounds s k j
  extra_value k j step extra =
      let front = arrival_values m a ++ send_values m x in
      let p : ℕ = (k - 1) * f.extra + (j - 1) in
      let place : arrivals m + sends m + 1 + (k - 1) * f.extra + (j - 1) - 1 ≡ length front + p = omega (arith, own_length m a x rest) in
      let one : 1 + (k - 1) ≡ k = omega (arith, step.from) in
      ap (λ n. get_or own n false) place ∙ get_or-append-add front rest p false
      ∙ rows_at (λ k. map (has_more_rounds s k) (range_with_len 1 f.extra)) f.extra 1 steps (k - 1) (j - 1) false (λ k. length-map-range_with_len (has_more_rounds s k) 1 f.extra) (omega (arith, step.from, step.to)) (omega (arith, extra.from, extra.to))
      ∙ ap (λ v. get_or (map (has_more_rounds s v) (range_with_len 1 f.extra)) (j - 1) false) one
      ∙ get_or-map-range_with_len (has_more_rounds s k) 1 f.extra (j - 1) j false (omega (arith, extra.from, extra.to)) (omega (arith, extra.from))

  step_of_range : (n k : ℕ) → From 1 n k → IsStep n k
  step_of_range n k at = record { from = omega (arith, at.0); to = omega (arith, at.1) }

  order_holds : all_hold own (extra_in_order f) ≡ true
  order_holds = passes_flat (clause_holds own) (IsStepOf m) (λ k. map (λ j. negation (extra_round f k (j + 1)) ∷ extra_round f k j ∷ []) (range_with_len 1 (f.extra - 1))) (steps_of m)
      (λ k st. passes_map (clause_holds own) (From 1 (f.extra - 1)) (λ j. negation (extra_round f k (j + 1)) ∷ extra_round f k j ∷ []) (range_with_len 1 (f.extra - 1)) (λ j at.
      let step = step_of_range steps k st in
      let here : IsStep f.extra j = record { from = omega (arith, at.0); to = omega (arith, at.1) } in
      let next : IsStep f.extra (j + 1) = record { from = omega arith; to = omega (arith, at.0, at.1) } in
      if_true own (extra_round f k (j + 1)) (extra_round f k j) (λ u.
      let more = leb-true (j + 1 + 1) (rounds_at s k) (sym (extra_value k (j + 1) step next) ∙ u) in
      extra_value k j step here ∙ le-leb (j + 1) (rounds_at s k) (omega (arith, more)))) (in_range 1 (f.extra - 1))) (in_range 1 steps)

  -- ---- the rounds

  extra_is : steps + f.extra ≡ sum s.rounds
  extra_is = omega (arith, solves.steps_are, solves.rounds_are, no_fewer s.rounds valid.rounds)

  rounds_few : (k : ℕ) → IsStep steps k → rounds_at s k ≤ 1 + f.extra
  rounds_few k step = omega (arith, one_step s.rounds (k - 1) valid.rounds (omega (arith, step.from, step.to, solves.steps_are)), extra_is, solves.steps_are)

  rounds_counted_few : true_inputs own (count_of_rounds f).inputs ≤ f.extra
  rounds_counted_few =
      let b : ℕ → ℕ = λ k. get_or s.rounds (k - 1) 0 - 1 in
      let each = count_flat (is_true own) (λ k. map (extra_round f k) (range_with_len 1 f.extra)) b 1 steps (λ k low high.
      let step : IsStep steps k = record { from = omega (arith, low); to = omega (arith, high) } in
      let same = count_alike (is_true own) (λ j. leb (j + 1) (rounds_at s k)) (From 1 f.extra) (extra_round f k) (range_with_len 1 f.extra) (λ j at. extra_value k j step (step_of_range f.extra j at)) (in_range 1 f.extra) in
      omega (arith, same, count_rounds (rounds_at s k) 1 f.extra)) in
      let all = beyond 1 s.rounds valid.rounds in
      let same : sum_by b (range_with_len 1 (length s.rounds)) ≡ sum_by b (range_with_len 1 steps) = ap (λ n. sum_by b (range_with_len 1 n)) solves.steps_are in
      omega (arith, each, all, same, extra_is, solves.steps_are)

  -- ---- what is said

  later_same : (more : List Bool) (k j : ℕ) → IsStep steps k → IsStep f.extra j → is_true (own ++ more) (extra_round f k j) ≡ has_more_rounds s k j
  later_same more k j step extra =
      old_is_same own more (own_variables f) (extra_round f k j) (omega (arith, own_is)) (extra_about f k j (omega (arith, step.from), omega (arith, step.to)) (omega (arith, extra.from), omega (arith, extra.to)))
      ∙ extra_value k j step extra

  rounds_allowed : Allows own (count_of_rounds f)
  rounds_allowed = grind (arith, nat_tests, negation_is, rounds_counted_few)

  group_allowed : (k : ℕ) → IsStep steps k → (i : ℕ) (d : GroupValue) → i < length t.groups → Allows own (count_of_group f k (get_or t.groups i d))
  group_allowed k step i d low =
      let group = get_or t.groups i d in
      let links = links_join t pre steps in
      let r = rounds_at s k in
      let g : ℕ × (ℕ × ℕ) → LitValue = λ z. sent m z.0 (link_number m z.1) k in
      let zs = cells t pre post s steps rounds nodes links range solves ok i d low in
      let inputs : (count_of_group f k group).inputs ≡ map g zs = map_cells g group.links 0 m.chunks in
      let same = count_alike (is_true own) (λ z. x z.0 (link_number m z.1) k) (λ z. (z.0 < m.chunks) × Good t pre post s steps rounds nodes links range solves ok i d low z.1) g zs
      (λ z at. sent_value m a x rest z.0 (link_number m z.1) k at.0 at.1.0.number step) (good_cells t pre post s steps rounds nodes links range solves ok i d low) in
      let loads = table_loads t pre post s steps rounds nodes links range solves ok i d low k step in
      let fits = solves.fits.within k step.from (omega (arith, step.to, solves.steps_are)) i d low in
      let count : ℕ = true_inputs own (count_of_group f k group).inputs in
      let few : count ≤ group.width * r = omega (arith, ap (true_inputs own) inputs, same, loads, fits) in
      let least : group.width * r ≤ group.width * (1 + f.extra) = mul-le-mul_left group.width (rounds_few k step) in
      record {
        says = λ more o outs.
            let w = own ++ more in
            let last : ℕ = group.width * (1 + f.extra) + 1 in
            let first_part : all_hold w (map (λ j. negation (o (group.width * j + 1)) ∷ extra_round f k j ∷ []) (range_with_len 1 f.extra)) ≡ true =
            passes_map (clause_holds w) (From 1 f.extra) (λ j. negation (o (group.width * j + 1)) ∷ extra_round f k j ∷ []) (range_with_len 1 f.extra) (λ j at.
            let extra = step_of_range f.extra j at in
            let up : group.width * j ≤ group.width * (1 + f.extra) = mul-le-mul_left group.width (omega (arith, at.1)) in
            if_true w (o (group.width * j + 1)) (extra_round f k j) (λ u.
            let more_than = leb-true (group.width * j + 1) count (sym (outs (group.width * j + 1) (omega arith) (omega (arith, up))) ∙ u) in
            let above : j + 1 ≤ r = ⊎_elim (λ less. omega (arith, less)) (λ no. let down : group.width * r ≤ group.width * j = mul-le-mul_left group.width no in absurd (omega (arith, down, few, more_than))) (cases_lt j r) in
            later_same more k j step extra ∙ le-leb (j + 1) r above)) (in_range 1 f.extra) in
            let last_part : all_hold w ((negation (o last) ∷ []) ∷ []) ≡ true = grind (arith, nat_tests, negation_is w (o last), outs last (omega arith) (omega arith), few, least) in
            hold_both w (map (λ j. negation (o (group.width * j + 1)) ∷ extra_round f k j ∷ []) (range_with_len 1 f.extra)) ((negation (o last) ∷ []) ∷ []) first_part last_part;
      }

  counts_allowed : All (Allows own) (counts_in f t)
  counts_allowed = of_counts (Allows own) f t (λ _. rounds_allowed) (λ k st i d low. group_allowed k (step_of_range steps k st) i d low)

  -- ---- the whole formula

  pub complete : (values : List Bool) × Satisfies values (formula_of t pre post steps rounds) × ((c n k : ℕ) → c < pre.chunks → n < t.nodes → k ≤ steps → is_true values (arrival m c n k) ≡ had pre s c n k)
  complete =
      let links = links_join t pre steps in
      let found = counters_extend (own_variables f) own own_is (counts_in f t) [] (all_counts t pre steps rounds ok chunks some) counts_allowed in
      let later = found.0 in
      let plain : own ++ [] ≡ own = append-nil own in
      let v = own ++ later in
      let before : length (own ++ []) ≡ own_variables f = ap length plain ∙ own_is in
      let whole : own ++ [] ++ later ≡ v = ap (λ u. u ++ later) plain in
      let many : length v ≡ (counters_after (own_variables f) (counts_in f t)).vars = ap length (sym whole) ∙ found.1 ∙ ap (λ n. (counters_after n (counts_in f t)).vars) before in
      let counters : all_hold v (counters_after (own_variables f) (counts_in f t)).clauses ≡ true =
      subst (λ n. all_hold v (counters_after n (counts_in f t)).clauses ≡ true) before (subst (λ u. all_hold u (counters_after (length (own ++ [])) (counts_in f t)).clauses ≡ true) whole found.2) in
      let sends_own = sending_holds m pre post a x own links (arrival_value m a x rest) (sent_value m a x rest) (schedule_moves t pre post s steps rounds nodes links range solves) in
      let sends : all_hold v (sending m pre post) ≡ true = clauses_same own later (own_variables f) (sending m pre post) (omega (arith, own_is)) (sending_about f links pre post) ∙ sends_own in
      let order : all_hold v (extra_in_order f) ≡ true = clauses_same own later (own_variables f) (extra_in_order f) (omega (arith, own_is)) (order_about f) ∙ order_holds in
      let whole_holds = hold_both v (sending m pre post ++ extra_in_order f) (counters_after (own_variables f) (counts_in f t)).clauses (hold_both v (sending m pre post) (extra_in_order f) sends order) counters in (
        v,
        record { values_are = many; holds = whole_holds },
        λ c n k cl nl kl. old_is_same own later (own_variables f) (arrival m c n k) (omega (arith, own_is)) (arrival_about f c n k cl nl kl) ∙ arrival_value m a x rest c n k cl nl kl,
      )
