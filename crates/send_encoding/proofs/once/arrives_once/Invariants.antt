use Rattle.std.{proofs.Common.◌≡◌, specs.List.{flat_map, range_with_len}}
use Rattle.cnf_formula.specs.Formulas.{with_clauses}
use Rattle.cardinality.specs.Counting.{at_most_one_of}
use Rattle.send_encoding.specs.{Sending.sends_into, inner.Parts.node_once}
use Rattle.send_encoding.proofs.once.arrives_once.Given as goal

abbrev pub invariant-loop-chunk : goal.invariant-loop-chunk
invariant-loop-chunk l = l.formula ≡ with_clauses l.initial.formula (flat_map (λ c. flat_map (λ n. node_once l.map (c, n)) (range_with_len 0 l.map.nodes)) (range_with_len 0 l.chunk))

abbrev pub invariant-loop-node : goal.invariant-loop-node
invariant-loop-node l = l.formula ≡ with_clauses l.initial.formula (flat_map (λ n. node_once l.map (l.chunk, n)) (range_with_len 0 l.node))

abbrev pub invariant-loop-index : goal.invariant-loop-index
invariant-loop-index l = l.formula ≡ with_clauses l.initial.formula (flat_map (λ s. at_most_one_of (sends_into l.map l.chunk l.node s)) (range_with_len 1 l.index))
