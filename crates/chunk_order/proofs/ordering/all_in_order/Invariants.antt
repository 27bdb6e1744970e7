use Rattle.std.{proofs.Common.◌≡◌, specs.List.{flat_map, range_with_len}}
use Rattle.cnf_formula.specs.Formulas.{with_clauses}
use Rattle.chunk_order.specs.Ordering.{leads_in_order}
use Rattle.chunk_order.proofs.ordering.all_in_order.Given as goal

abbrev pub invariant-loop-chunk : goal.invariant-loop-chunk
invariant-loop-chunk l = l.formula ≡ with_clauses l.initial.formula (flat_map (leads_in_order l.map l.instance.pre l.instance.post) (range_with_len 0 l.chunk))
