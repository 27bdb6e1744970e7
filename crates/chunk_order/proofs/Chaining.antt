-- The clauses of the order hold exactly where, after each step, of two chunks that are alike the first is at the watch node where the second is.
use Rattle.std.{proofs.{Common.{◌≡◌, ℕ, ◌<◌, Bool, true, List, [], ◌∷◌, Some, None, refl, sym, ap, ◌∙◌, arith, Option, filter, flat_map}, lemmas.List.Elements.recursion_from_All}, specs.List.{AllByRecursion, range_with_len}}
use Rattle.schedule.{specs.{Placed.PlacementValue, Sends.IsStep}, proofs.First.each_weaker}
use Rattle.cnf_formula.specs.Literals.{LitValue, negation, is_true, clause_holds, all_hold}
use Rattle.send_encoding.{specs.Variables.{SendMapValue, steps_of, arrival}, proofs.{Everywhere.{by_recursion, From, in_range}, Complete.{passes_flat, passes_map, if_true}, Sound.{flat_passes, map_passes, at_range, said_if}}}
use Rattle.chunk_order.specs.{Alike.{is_alike, watch_node}, Ordering.{is_least, class_of, next_pairs, pair_in_order, class_in_order, order_clauses}}
use Rattle.chunk_order.proofs.{Alikeness.{alike_back, alike_both, watch_alike}, Classes.{IsNext, Leads, leads, nexts_of_class, filter_at, chained, later_at}}

module _ (m : SendMapValue) (pre post : PlacementValue) (values : List Bool) (nodes : post.nodes ≡ pre.nodes) where
  -- after each step, the first chunk is at the node where the second is
  abbrev pub Follows : ℕ → ℕ → ℕ → Type 0
  Follows node c d = (step : ℕ) → IsStep m.steps step → is_true values (arrival m d node step) ≡ true → is_true values (arrival m c node step) ≡ true

  abbrev clause_of : ℕ → ℕ × ℕ → ℕ → List LitValue
  clause_of node pair step = negation (arrival m pair.1 node step) ∷ arrival m pair.0 node step ∷ []

  -- ---- where chunks follow each other, the clauses hold

  pub clauses_hold : ((c d node : ℕ) → c < d → d < pre.chunks → is_alike pre post c d ≡ true → watch_node pre post c ≡ Some node → Follows node c d) → all_hold values (order_clauses m pre post) ≡ true
  clauses_hold follows =
      passes_flat (clause_holds values) (λ c. Unit {0}) (λ c. class_in_order m (watch_node pre post c) (class_of pre post c)) (filter (is_least pre post) (range_with_len 0 pre.chunks)) (λ leader any. of_class leader (watch_node pre post leader) refl) (λ k d low. tt)
    where
      of_pair : (leader node : ℕ) (pair : ℕ × ℕ) → watch_node pre post leader ≡ Some node → IsNext pre post leader pair → all_hold values (pair_in_order m node pair) ≡ true
      of_pair leader node pair watch next =
          passes_map (clause_holds values) (From 1 m.steps) (clause_of node pair) (steps_of m) (λ step at.
          let alike : is_alike pre post pair.0 pair.1 ≡ true = alike_both pre post pair.0 leader pair.1 (alike_back pre post leader pair.0 next.first) next.second in
          let watched : watch_node pre post pair.0 ≡ Some node = sym (watch_alike pre post leader pair.0 nodes next.first) ∙ watch in
          if_true values (arrival m pair.1 node step) (arrival m pair.0 node step) (follows pair.0 pair.1 node next.less next.low alike watched step (record { from = omega (arith, at.0); to = omega (arith, at.1) })))
          (in_range 1 m.steps)

      of_class : (leader : ℕ) (w : Option ℕ) → watch_node pre post leader ≡ w → all_hold values (class_in_order m w (class_of pre post leader)) ≡ true
      of_class leader None watch = refl
      of_class leader (Some node) watch =
          passes_flat (clause_holds values) (IsNext pre post leader) (pair_in_order m node) (next_pairs (class_of pre post leader)) (λ pair next. of_pair leader node pair watch next)
          (by_recursion (IsNext pre post leader) (next_pairs (class_of pre post leader)) (nexts_of_class pre post leader))

  -- ---- where the clauses hold, chunks follow each other

  pub they_follow : all_hold values (order_clauses m pre post) ≡ true → (c d node : ℕ) → c < d → d < pre.chunks → is_alike pre post c d ≡ true → watch_node pre post c ≡ Some node → Follows node c d
  they_follow all c d node less dl alike watch =
      let found : Leads pre post c = leads pre post c in
      let l : ℕ = found.leader in
      let of_leader : ℕ → List (List LitValue) = λ c. class_in_order m (watch_node pre post c) (class_of pre post c) in
      let each : AllByRecursion (λ c. all_hold values (of_leader c) ≡ true) (filter (is_least pre post) (range_with_len 0 pre.chunks)) = recursion_from_All (λ c. all_hold values (of_leader c) ≡ true) (filter (is_least pre post) (range_with_len 0 pre.chunks)) (flat_passes (clause_holds values) of_leader (filter (is_least pre post) (range_with_len 0 pre.chunks)) all) in
      let mine : all_hold values (of_leader l) ≡ true = filter_at (is_least pre post) (λ c. all_hold values (of_leader c) ≡ true) 0 pre.chunks l each (omega arith) (omega (arith, found.low, less, dl)) found.least in
      let watched : watch_node pre post l ≡ Some node = watch_alike pre post l c nodes found.alike ∙ watch in
      let class_holds : all_hold values (flat_map (pair_in_order m node) (next_pairs (class_of pre post l))) ≡ true = ap (λ w. all_hold values (class_in_order m w (class_of pre post l))) (sym watched) ∙ mine in
      let pairs : AllByRecursion (λ pair. all_hold values (pair_in_order m node pair) ≡ true) (next_pairs (class_of pre post l)) =
      recursion_from_All (λ pair. all_hold values (pair_in_order m node pair) ≡ true) (next_pairs (class_of pre post l)) (flat_passes (clause_holds values) (pair_in_order m node) (next_pairs (class_of pre post l)) class_holds) in
      let nexts : AllByRecursion (λ pair. Follows node pair.0 pair.1) (next_pairs (class_of pre post l)) =
      each_weaker (λ pair. all_hold values (pair_in_order m node pair) ≡ true) (λ pair. Follows node pair.0 pair.1) (λ pair held step at.
      said_if values (arrival m pair.1 node step) (arrival m pair.0 node step) (at_range (λ step. clause_holds values (clause_of node pair step) ≡ true) 1 m.steps step (map_passes (clause_holds values) (clause_of node pair) (steps_of m) held) (omega (arith, at.from)) (omega (arith, at.to))))
      (next_pairs (class_of pre post l)) pairs in
      later_at (Follows node) (is_alike pre post l) 0 pre.chunks c d (chained (Follows node) (λ a b c first second step at there. first step at (second step at there)) (class_of pre post l) nexts) (omega arith) less (omega (arith, dl))
      found.alike (alike_both pre post l c d found.alike alike)
