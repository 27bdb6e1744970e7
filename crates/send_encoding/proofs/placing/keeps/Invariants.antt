use Rattle.std.{proofs.Common.{◌≡◌, ◌-◌, ◌∷◌, [], map}, specs.List.{flat_map, range_with_len}}
use Rattle.cnf_formula.specs.{Literals.negation, Formulas.with_clauses}
use Rattle.send_encoding.specs.{Variables.arrival, inner.Parts.node_keeps}
use Rattle.send_encoding.proofs.placing.keeps.Given as goal

abbrev pub invariant-loop-chunk : goal.invariant-loop-chunk
invariant-loop-chunk l = l.formula ≡ with_clauses l.initial.formula (flat_map (λ c. flat_map (λ n. node_keeps l.map (c, n)) (range_with_len 0 l.map.nodes)) (range_with_len 0 l.chunk))

abbrev pub invariant-loop-node : goal.invariant-loop-node
invariant-loop-node l = l.formula ≡ with_clauses l.initial.formula (flat_map (λ n. node_keeps l.map (l.chunk, n)) (range_with_len 0 l.node))

abbrev pub invariant-loop-index : goal.invariant-loop-index
invariant-loop-index l = l.formula ≡ with_clauses l.initial.formula (map (λ s. negation (arrival l.map l.chunk l.node (s - 1)) ∷ arrival l.map l.chunk l.node s ∷ []) (range_with_len 1 l.index))
