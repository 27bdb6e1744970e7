use Rattle.std.{proofs.Common.◌≡◌, specs.List.{flat_map, range_with_len}}
use Rattle.cnf_formula.specs.Formulas.{with_clauses}
use Rattle.send_encoding.specs.inner.Parts.{node_starts}
use Rattle.send_encoding.proofs.placing.at_start.Given as goal

abbrev pub invariant-loop-chunk : goal.invariant-loop-chunk
invariant-loop-chunk l = l.formula ≡ with_clauses l.initial.formula (flat_map (λ c. flat_map (λ n. node_starts l.map l.pre (c, n)) (range_with_len 0 l.map.nodes)) (range_with_len 0 l.chunk))

abbrev pub invariant-loop-node : goal.invariant-loop-node
invariant-loop-node l = l.formula ≡ with_clauses l.initial.formula (flat_map (λ n. node_starts l.map l.pre (l.chunk, n)) (range_with_len 0 l.node))
