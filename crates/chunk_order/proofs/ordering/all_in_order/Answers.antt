use Rattle.std.{proofs.Common.{◌≡◌, arith, sym, ap, ◌∙◌, flat_map}, specs.List.range_with_len}
use Rattle.cnf_formula.specs.Formulas.{with_clauses}
use Rattle.chunk_order.{specs.{Alike.watch_node, Ordering.{is_least, class_in_order, class_of, leads_in_order}}, proofs.Pushing.flat_filter}
use Rattle.chunk_order.proofs.ordering.all_in_order.Goals as goal

pub returns : goal.returns
returns c =
    let m = c.args.map.now in
    let i = c.args.instance.now in
    let end : c.loop-chunk.chunk ≡ i.pre.chunks = omega (arith, c.loop-chunk-test.false, c.loop-chunk.auto.chunk-end, c.chunks-chunk-end.ensures.chunks, c.requires.before) in
    c.loop-chunk.invariant ∙ ap (λ n. with_clauses c.args.formula.now (flat_map (leads_in_order m i.pre i.post) (range_with_len 0 n))) end
    ∙ ap (with_clauses c.args.formula.now) (sym (flat_filter (is_least i.pre i.post) (λ c. class_in_order m (watch_node i.pre i.post c) (class_of i.pre i.post c)) (range_with_len 0 i.pre.chunks)))
