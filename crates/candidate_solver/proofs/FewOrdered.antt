-- The clauses of the order are few.
use Rattle.std.proofs.{Common.{ℕ, ◌*◌, ◌≤◌, Bool, true, false, List, [], ◌∷◌, length, sym, subst, arith, Option, None, Some, filter, flat_map}, lemmas.List.{length-append, Sums.sum_by-le}}
use Rattle.std.{proofs.lemmas.{List.{Concat.length-flat_map, FromFn.{length-map-range_with_len, length-range_with_len}}, Bool.Decides.nat_tests}, specs.List.range_with_len}
use Rattle.list_laws.proofs.Tests.{few_kept}
use Rattle.schedule.specs.{Links.TopologyValue, Placed.PlacementValue}
use Rattle.cnf_formula.specs.Literals.{negation}
use Rattle.send_encoding.specs.Variables.{SendMapValue, arrival}
use Rattle.round_encoding.{specs.Candidates.{IsCandidate, size_limit, size_of}, proofs.FewClauses.small}
use Rattle.chunk_order.specs.{Ordering.{class_in_order, class_of, is_least, next_pairs, order_clauses, pair_in_order}, Alike.{is_alike, watch_node}}
use Rattle.candidate_formula.proofs.Exact.{asked_formula}
use Rattle.candidate_solver.proofs.Readable.{IsSmall}

-- of so many pieces of at most so many elements each
pieces_few : {X Y : Type 0} (f : X → List Y) (most : ℕ) (xs : List X) → ((x : X) → length (f x) ≤ most) → length (flat_map f xs) ≤ length xs * most
pieces_few f most xs few = subst (λ n. n ≤ length xs * most) (sym (length-flat_map f xs)) (sum_by-le (λ x. length (f x)) most xs (λ k d low. few _))

pairs_few : (xs : List ℕ) → length (next_pairs xs) ≤ length xs
pairs_few [] = omega arith
pairs_few (c ∷ []) = omega arith
pairs_few (c ∷ d ∷ ds) = let rest = pairs_few (d ∷ ds) in omega (arith, rest)

module _ (m : SendMapValue) (few_steps : m.steps ≤ 16) where
  pair_few : (node : ℕ) (pair : ℕ × ℕ) → length (pair_in_order m node pair) ≤ 16
  pair_few node (c, d) = let steps = length-map-range_with_len (λ step. negation (arrival m d node step) ∷ arrival m c node step ∷ []) 1 m.steps in omega (arith, steps, few_steps)

  class_few : (node : Option ℕ) (chunks : List ℕ) → length chunks ≤ 256 → length (class_in_order m node chunks) ≤ 4096
  class_few None chunks few = omega arith
  class_few (Some node) chunks few =
      let pairs = pairs_few chunks in
      let all = pieces_few (pair_in_order m node) 16 (next_pairs chunks) (pair_few node) in
      omega (arith, pairs, all, few)

  module _ (pre post : PlacementValue) (few_chunks : pre.chunks ≤ 256) where
    among_few : (p : ℕ → Bool) → length (filter p (range_with_len 0 pre.chunks)) ≤ 256
    among_few p = grind (arith, nat_tests, few_kept, length-range_with_len)

    pub order_few : length (order_clauses m pre post) ≤ 1048576
    order_few =
        let classes = among_few (is_least pre post) in
        let all = pieces_few (λ c. class_in_order m (watch_node pre post c) (class_of pre post c)) 4096 (filter (is_least pre post) (range_with_len 0 pre.chunks)) (λ c. class_few (watch_node pre post c) (class_of pre post c) (among_few (is_alike pre post c))) in
        omega (arith, classes, all)

-- so the formula is small with them and without them
pub asked_small : (ordered : Bool) (t : TopologyValue) (pre post : PlacementValue) (steps rounds : ℕ) → IsCandidate t pre post steps rounds → size_of t pre steps rounds ≤ size_limit → IsSmall (asked_formula ordered t pre post steps rounds)
asked_small false t pre post steps rounds is size = grind (arith, nat_tests, small)
asked_small true t pre post steps rounds is size = grind (arith, nat_tests, small, order_few, asked_formula, length-append)
