-- The formula of a candidate whose size is within the limit is small.
use Rattle.std.proofs.{Common.{◌≡◌, ℕ, ◌+◌, ◌-◌, ◌*◌, ◌<◌, ◌≤◌, List, [], ◌∷◌, ◌++◌, map, length, ap, arith, length-append, All}, lemmas.{List.FromFn.{length-range_with_len, length-map-range_with_len}, Nat.mul-le}}
use Rattle.std.specs.List.{range_with_len}
use Rattle.schedule.specs.{Links.TopologyValue, Placed.PlacementValue}
use Rattle.cnf_formula.specs.Literals.{LitValue, negation}
use Rattle.cardinality.proofs.Lengths.{flat_length}
use Rattle.send_encoding.specs.{Variables.{steps_of, sends}, Sending.sending}
use Rattle.send_encoding.proofs.FewClauses as base
use Rattle.round_encoding.specs.{Candidates.{IsCandidate, size_of, size_limit}, Frames.{Frame, frame_of, own_variables, extra_round}, Rounding.{counts_in, counters_after, extra_in_order, formula_of}}
use Rattle.round_encoding.proofs.{FewCounters.{counts_space, counts_low}, LowCounts.{IsLow, counted_variables, counted_clauses}, Sizes.{cells, few_counted, few_variables, all_groups}}

order_few : (f : Frame) → length (extra_in_order f) ≤ f.map.steps * f.extra
order_few f =
    let at : ℕ → List (List LitValue) = λ s. map (λ j. negation (extra_round f s (j + 1)) ∷ extra_round f s j ∷ []) (range_with_len 1 (f.extra - 1)) in
    let same : (s : ℕ) → length (at s) ≡ f.extra - 1 = λ s. length-map-range_with_len _ 1 (f.extra - 1) in
    omega (arith, flat_length at f.extra (steps_of f.map) (λ s. omega (arith, same s)), ap (λ n. n * f.extra) (length-range_with_len 1 f.map.steps))

module _ (t : TopologyValue) (pre post : PlacementValue) (steps rounds : ℕ) (ok : IsCandidate t pre post steps rounds) (size : size_of t pre steps rounds ≤ size_limit) where
  abbrev f : Frame
  f = frame_of t pre steps rounds

  low : All IsLow (counts_in f t)
  low = counts_low f t (omega (arith, ok.most)) ok.some ok.chunks ok.topology.groups

  variables : (formula_of t pre post steps rounds).vars < 2097152
  variables = omega (arith, counted_variables (own_variables f) (counts_in f t) low, counts_space f t, few_variables t pre post steps rounds ok size)

  few_sending : length (sending f.map pre post) ≤ 256 * 16 * 4130 + sends f.map * 3
  few_sending =
      let nodes = ok.topology.few in
      let square : t.nodes * t.nodes ≤ 256 = mul-le t.nodes t.nodes 16 16 nodes nodes in
      let at_steps : steps * (2 + t.nodes * t.nodes) ≤ 16 * 258 = mul-le steps (2 + t.nodes * t.nodes) 16 258 ok.few (omega (arith, square)) in
      let all : pre.chunks * t.nodes * (2 + steps * (2 + t.nodes * t.nodes)) ≤ 256 * 16 * 4130 =
      mul-le (pre.chunks * t.nodes) (2 + steps * (2 + t.nodes * t.nodes)) (256 * 16) 4130 (cells t pre post steps rounds ok size) (omega (arith, at_steps)) in
      omega (arith, base.few_clauses t pre post steps, all)

  few_order : length (extra_in_order f) ≤ 16 * 8
  few_order = omega (arith, order_few f, mul-le steps (rounds - steps) 16 8 ok.few (omega (arith, ok.most)))

  clauses : length (formula_of t pre post steps rounds).clauses < 1000000000
  clauses =
      let counters = counters_after (own_variables f) (counts_in f t) in
      omega (
        arith,
        length-append (sending f.map pre post ++ extra_in_order f) counters.clauses,
        length-append (sending f.map pre post) (extra_in_order f),
        few_sending,
        few_order,
        counted_clauses (own_variables f) (counts_in f t) low,
        counts_space f t,
        few_counted t pre post steps rounds ok size,
        all_groups f t.groups,
        size,
      )

pub small : (t : TopologyValue) (pre post : PlacementValue) (steps rounds : ℕ) → IsCandidate t pre post steps rounds → size_of t pre steps rounds ≤ size_limit
    → ((formula_of t pre post steps rounds).vars < 2097152) × (length (formula_of t pre post steps rounds).clauses < 1000000000)
small t pre post steps rounds ok size = (variables t pre post steps rounds ok size, clauses t pre post steps rounds ok size)
