use Rattle.std.{proofs.Common.{◌≡◌, ◌-◌, ◌≤◌, ◌∷◌, [], length, map, flat_map, slice_index_or}, specs.List.range_with_len}
use Rattle.cnf_formula.specs.{Literals.negation, Formulas.with_clauses}
use Rattle.send_encoding.specs.Variables.{arrival}
use Rattle.chunk_order.specs.Ordering.{pair_in_order}
use Rattle.chunk_order.proofs.ordering.class_in_order.Given as goal

abbrev pub invariant-loop-index : goal.invariant-loop-index
invariant-loop-index l = record {
  pushed : l.formula ≡ with_clauses l.initial.formula (flat_map (λ k. pair_in_order l.map l.node (slice_index_or l.class (k - 1) 0, slice_index_or l.class k 0)) (range_with_len 1 (l.index - 1)));
  within : l.index - 1 ≤ length l.class - 1;
}

abbrev pub invariant-loop-step : goal.invariant-loop-step
invariant-loop-step l = l.formula ≡ with_clauses l.initial.formula (map (λ s. negation (arrival l.map (slice_index_or l.class l.index 0) l.node s) ∷ arrival l.map (slice_index_or l.class (l.index - 1) 0) l.node s ∷ []) (range_with_len 1 l.step))
