-- Ordered schedules suffice: a candidate is solvable exactly where an ordered schedule that wastes no send solves it, and the formula with the clauses of the order is satisfiable exactly there.
use Rattle.std.proofs.{Common.{◌≡◌, ℕ, zero, suc, ◌<◌, ◌≤◌, Bool, true, List, ◌++◌, refl, sym, ◌∙◌, arith, ◌↔◌, Some}, lemmas.List.Folds.list_all-append}
use Rattle.schedule.specs.{Links.TopologyValue, Placed.{PlacementValue, holds}, Sends.{ScheduleValue, IsSchedule, IsInRange}, Running.after, Solving.{Solves, Solvable}}
use Rattle.cnf_formula.specs.{Literals.{LitValue, is_true, clause_holds, all_hold}, Formulas.{Satisfies, Satisfiable}}
use Rattle.send_encoding.{specs.{Variables.{SendMapValue, map_of, arrival, sent}, Sending.sending, Agreeing.SatisfiesAs}, proofs.{Mapped.links_join, Sound.sending_says, Decoded.sends_tell, Running.run_is}}
use Rattle.round_encoding.{specs.{Frames.{Frame, frame_of, own_variables}, Rounding.{counts_in, counters_after, extra_in_order, formula_of}, Decoding.decoded, Candidates.{IsCandidate, IsTightSolution}}, proofs.Exactly.{sound, completely}}
use Rattle.chunk_order.specs.{Alike.{Ordered, is_alike, watch_node}, Ordering.{order_clauses, ordered_formula_of}, Solutions.{IsOrderedSolution, HasOrderedSolution}}
use Rattle.chunk_order.proofs.{Alikeness.{alike_before, watch_below}, Sorting.reordered, Chaining.{clauses_hold, they_follow}}

module _ (t : TopologyValue) (pre post : PlacementValue) (steps rounds : ℕ) (candidate : IsCandidate t pre post steps rounds) where
  abbrev m : SendMapValue
  m = map_of t pre steps

  -- ---- the two parts of the formula

  split : (values : List Bool) (xs ys : List (List LitValue)) → all_hold values (xs ++ ys) ≡ true → (all_hold values xs ≡ true) × (all_hold values ys ≡ true)
  split values xs ys h = grind (arith, list_all-append (clause_holds values) xs ys)

  pub parts : (values : List Bool) → Satisfies values (ordered_formula_of t pre post steps rounds) → Satisfies values (formula_of t pre post steps rounds) × (all_hold values (order_clauses m pre post) ≡ true)
  parts values h =
      let both = split values (formula_of t pre post steps rounds).clauses (order_clauses m pre post) h.holds in
      (record { values_are = h.values_are; holds = both.0 }, both.1)

  together : (values : List Bool) → Satisfies values (formula_of t pre post steps rounds) → all_hold values (order_clauses m pre post) ≡ true → Satisfies values (ordered_formula_of t pre post steps rounds)
  together values h order = record {
    values_are = h.values_are;
    holds = grind (arith, list_all-append (clause_holds values) (formula_of t pre post steps rounds).clauses (order_clauses m pre post), h.holds);
  }

  -- ---- what an assignment decodes to

  -- the run of the schedule that an assignment says holds its arrivals
  run_said : (values : List Bool) → Satisfies values (formula_of t pre post steps rounds) → (k c n : ℕ) → k ≤ steps → c < pre.chunks → n < t.nodes
      → holds (after pre (decoded (frame_of t pre steps rounds) values) k) (c, n) ≡ is_true values (arrival m c n k)
  run_said values h k c n kl cl nl =
      let f : Frame = frame_of t pre steps rounds in
      let first = split values (sending m pre post ++ extra_in_order f) (counters_after (own_variables f) (counts_in f t)).clauses h.holds in
      let sends = split values (sending m pre post) (extra_in_order f) first.0 in
      run_is m pre post (λ c n k. is_true values (arrival m c n k)) (λ c e k. is_true values (sent m c e k)) (decoded f values) refl candidate.nodes (links_join t pre steps)
      (sending_says m pre post values sends.0) (sends_tell m values (links_join t pre steps)) k c n kl cl nl

  pub decodes_ordered : (values : List Bool) → Satisfies values (ordered_formula_of t pre post steps rounds) → IsOrderedSolution t pre post (decoded (frame_of t pre steps rounds) values) steps rounds
  decodes_ordered values h =
      let both = parts values h in
      let s : ScheduleValue = decoded (frame_of t pre steps rounds) values in
      let solution : IsTightSolution t pre post s steps rounds = sound t pre post steps rounds values candidate both.0 in
      record { solution = solution; ordered = λ c d node step less dl alike watch low held. at values both.0 both.1 c d node step less dl alike watch (omega (arith, low, solution.solves.steps_are)) held }
    where
      at : (values : List Bool) → Satisfies values (formula_of t pre post steps rounds) → all_hold values (order_clauses m pre post) ≡ true → (c d node step : ℕ) → c < d → d < pre.chunks → is_alike pre post c d ≡ true → watch_node pre post c ≡ Some node → step ≤ steps
          → holds (after pre (decoded (frame_of t pre steps rounds) values) step) (d, node) ≡ true → holds (after pre (decoded (frame_of t pre steps rounds) values) step) (c, node) ≡ true
      at values h order c d node zero less dl alike watch low held = alike_before pre post c d node alike (omega (arith, watch_below pre post c node watch, candidate.nodes_wanted)) ∙ held
      at values h order c d node (suc k) less dl alike watch low held =
          let nl : node < t.nodes = omega (arith, watch_below pre post c node watch, candidate.nodes_wanted, candidate.nodes) in
          let cl : c < pre.chunks = omega (arith, less, dl) in
          let said : is_true values (arrival m d node (suc k)) ≡ true = sym (run_said values h (suc k) d node low dl nl) ∙ held in
          run_said values h (suc k) c node low cl nl ∙ they_follow m pre post values candidate.nodes_wanted order c d node less dl alike watch (suc k) (record { from = omega arith; to = low }) said

  -- ---- an ordered schedule satisfies the formula

  pub ordered_satisfies : (s : ScheduleValue) → IsSchedule s → IsInRange pre.chunks pre.nodes s → Solves t pre post s steps rounds → Ordered pre post s → SatisfiesAs m pre s (ordered_formula_of t pre post steps rounds)
  ordered_satisfies s valid range solves ordered =
      let found : SatisfiesAs m pre s (formula_of t pre post steps rounds) = completely t pre post s steps rounds candidate valid range solves in
      let values : List Bool = found.values in
      record {
        values = values;
        satisfies = together values found.satisfies (clauses_hold m pre post values candidate.nodes_wanted (λ c d node less dl alike watch step at there.
            let nl : node < t.nodes = omega (arith, watch_below pre post c node watch, candidate.nodes_wanted, candidate.nodes) in
            let cl : c < pre.chunks = omega (arith, less, dl) in
            let held : holds (after pre s step) (d, node) ≡ true = sym (found.arrivals d node step dl nl at.to) ∙ there in
            found.arrivals c node step cl nl at.to ∙ ordered c d node step less dl alike watch (omega (arith, at.to, solves.steps_are)) held));
        arrivals = found.arrivals;
      }

  -- ---- ordered schedules suffice

  pub ordered_satisfiable : Solvable t pre post steps rounds → Satisfiable (ordered_formula_of t pre post steps rounds)
  ordered_satisfiable some =
      let best = reordered t pre post steps rounds candidate.wanted candidate.chunks_wanted candidate.nodes_wanted some in
      let found = ordered_satisfies best.some.schedule best.some.valid best.some.in_range best.some.solves best.ordered in
      record { values = found.values; satisfies = found.satisfies }

  pub satisfiable_solvable : Satisfiable (ordered_formula_of t pre post steps rounds) → HasOrderedSolution t pre post steps rounds
  satisfiable_solvable some = record { schedule = decoded (frame_of t pre steps rounds) some.values; is = decodes_ordered some.values some.satisfies }

  pub solution_solves : HasOrderedSolution t pre post steps rounds → Solvable t pre post steps rounds
  solution_solves some = let it = some.is.solution in record { schedule = some.schedule; valid = it.valid; in_range = it.in_range; solves = it.solves }

pub ordered_suffice : (t : TopologyValue) (pre post : PlacementValue) (steps rounds : ℕ) → IsCandidate t pre post steps rounds → Solvable t pre post steps rounds ↔ HasOrderedSolution t pre post steps rounds
ordered_suffice t pre post steps rounds candidate = (
  λ some. satisfiable_solvable t pre post steps rounds candidate (ordered_satisfiable t pre post steps rounds candidate some),
  λ some. solution_solves t pre post steps rounds candidate some,
)

pub exactly_solvable : (t : TopologyValue) (pre post : PlacementValue) (steps rounds : ℕ) → IsCandidate t pre post steps rounds → Satisfiable (ordered_formula_of t pre post steps rounds) ↔ Solvable t pre post steps rounds
exactly_solvable t pre post steps rounds candidate = (
  λ some. solution_solves t pre post steps rounds candidate (satisfiable_solvable t pre post steps rounds candidate some),
  λ some. ordered_satisfiable t pre post steps rounds candidate some,
)
