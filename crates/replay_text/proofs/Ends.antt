-- The store after the last step of a point that adds up, and the verdict on it.
use Rattle.std.proofs.{Common.{◌≡◌, ℕ, ◌+◌, ◌<◌, true, false, List, length, map, get_or, if◌then◌else◌, sym, ap, ◌∙◌, arith}, lemmas.{List.FromFn.{length-map-range_with_len, get_or-map-range_with_len}, Simd.map-map}}
use Rattle.std.specs.List.{range_with_len}
use Rattle.schedule.specs.{Links.TopologyValue, Sends.ScheduleValue, Placed.PlacementValue, Bags.{Bags, contributions, of_placement}, JoinedRuns.{joined_after, joined_run}}
use Rattle.bag_runs.{specs.Stores.{StoreValue, stored}, proofs.JoinedSteps.adding_throughout}
use Rattle.inversion.specs.Judging.{last_bags, sum_verdict_of}
use Rattle.allreduce_join.{specs.Judging.{joined_bags, joined_verdict_of}, proofs.OneVerdict.{judged_adding, judged_everywhere}}
use Rattle.replay_text.{specs.{Showing.{Shown, adding_of, chunks_at, instance_at, is_copied, is_joined, nodes_of, summed_verdict}, inner.Appended.start_bags, Points.{IsShowable, last_store_of}}, proofs.Bodies.{adding_is, demand_at}}

-- ---- in the run of the point

module _ (x : Shown) (adds : is_copied x ≡ false) (start : StoreValue) (adding : ℕ) (s : ScheduleValue) (run : List StoreValue) (rounds : List ℕ) (is : start ≡ stored (chunks_at x) (nodes_of x) (start_bags x)) (own_adding : adding ≡ adding_of x) (own : s ≡ x.point.schedule)
    (ran : (bags : Bags) → start ≡ stored start.chunks start.nodes bags → run ≡ map (stored start.chunks start.nodes) (joined_run bags s adding)) (same : rounds ≡ s.rounds) where
  abbrev bags_of : Bags
  bags_of = contributions (nodes_of x)

  abbrev after : ℕ → StoreValue
  after n = stored (chunks_at x) (nodes_of x) (joined_after bags_of x.point.schedule (adding_of x) n)

  made : start ≡ stored (chunks_at x) (nodes_of x) bags_of
  made = is ∙ ap (λ b. stored (chunks_at x) (nodes_of x) (if b then of_placement (instance_at x).pre else bags_of)) adds

  pub added_run : run ≡ map (stored (chunks_at x) (nodes_of x)) (joined_run bags_of x.point.schedule (adding_of x))
  added_run = ran bags_of (made ∙ sym (λ i. stored (made i).chunks (made i).nodes bags_of)) ∙ (λ i. map (stored (made i).chunks (made i).nodes) (joined_run bags_of (own i) (own_adding i)))

  after_each : run ≡ map after (range_with_len 0 (length x.point.schedule.rounds + 1))
  after_each = added_run ∙ map-map (stored (chunks_at x) (nodes_of x)) (joined_after bags_of x.point.schedule (adding_of x)) (range_with_len 0 (length x.point.schedule.rounds + 1))

  as_many : length rounds ≡ length x.point.schedule.rounds
  as_many = ap length same ∙ ap (λ (p : ScheduleValue). length p.rounds) own

  pub added_inside : length rounds < length run
  added_inside = omega (arith, as_many, ap length after_each, length-map-range_with_len after 0 (length x.point.schedule.rounds + 1))

  pub added_last : (last : StoreValue) → last ≡ get_or run (length rounds) last → last ≡ last_store_of x
  added_last last read =
      read
      ∙ (λ i. get_or (after_each i) (as_many i) last)
      ∙ get_or-map-range_with_len after 0 (length x.point.schedule.rounds + 1) (length x.point.schedule.rounds) (length x.point.schedule.rounds) last (omega arith) (omega arith)

-- ---- as the verdicts take it

module _ (x : Shown) (last : StoreValue) (t : TopologyValue) (chunks : ℕ) (s : ScheduleValue) (topology : t ≡ x.question.topology) (own_chunks : chunks ≡ chunks_at x) (own : s ≡ x.point.schedule) (is : last ≡ last_store_of x) where
  pub last_joined : (adding : ℕ) → adding ≡ adding_of x → last ≡ stored chunks t.nodes (joined_bags t s adding)
  last_joined adding own_adding =
      is ∙ sym (λ i. stored (own_chunks i) (topology i).nodes (joined_bags (topology i) (own i) (own_adding i)))

  -- where the point joins no others, every step adds
  pub last_summed : IsShowable x → is_copied x ≡ false → is_joined x.part ≡ false → last ≡ stored chunks t.nodes (last_bags t s)
  last_summed shows adds single =
      let all : adding_of x ≡ length x.point.schedule.rounds = adding_is x adds ∙ shows.all_add single in
      is
      ∙ ap (stored (chunks_at x) (nodes_of x)) (adding_throughout (contributions (nodes_of x)) x.point.schedule (adding_of x) (length x.point.schedule.rounds) (omega (arith, all)))
      ∙ sym (λ i. stored (own_chunks i) (topology i).nodes (last_bags (topology i) (own i)))

-- ---- the verdict on it

module _ (x : Shown) (shows : IsShowable x) (t : TopologyValue) (s : ScheduleValue) (topology : t ≡ x.question.topology) (own : s ≡ x.point.schedule) where
  pub joined_told : is_joined x.part ≡ true → (chunks adding : ℕ) → chunks ≡ chunks_at x → adding ≡ adding_of x → joined_verdict_of t chunks s adding ≡ summed_verdict x
  joined_told joins chunks adding own_chunks own_adding =
      (λ i. joined_verdict_of (topology i) (own_chunks i) (own i) (own_adding i))
      ∙ judged_everywhere x.question.topology (chunks_at x) (demand_at x) x.point.schedule (adding_of x) (shows.everywhere joins)

  pub summed_told : is_copied x ≡ false → is_joined x.part ≡ false → (demand : PlacementValue) → demand ≡ demand_at x → sum_verdict_of t demand s ≡ summed_verdict x
  summed_told adds single demand own_demand =
      (λ i. sum_verdict_of (topology i) (own_demand i) (own i))
      ∙ judged_adding x.question.topology (demand_at x) x.point.schedule (adding_of x) (omega (arith, adding_is x adds, shows.all_add single))
