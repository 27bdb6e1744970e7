use Rattle.std.proofs.{Common.{rules, ◌≡◌, ◌+◌, sym, ap, ◌∙◌, map, map-id, refl, arith}, lemmas.{Result.IfOk-weaker, Iterator.{YieldsList-from_slice, YieldsList-from_range, Consumers.YieldsList-from_copied}}}
use Rattle.std.specs.{List.range_with_len, Slice.Iter.iter_rest, Iterator.Adapters.copied_source}
use Rattle.itertools.proofs.AdaptorLemmas.{items_from_whole_run}
use Rattle.candidate_order.specs.Listed.{candidate_at}
use Rattle.candidate_order.proofs.listing.pairs.Goals as goal

-- each source is given in turn: the rounds, the counts for each, the pairs, the candidates
pub returns : goal.returns
returns c =
    let rounds = range_with_len c.args.step (c.args.k + 1) in
    let counts = c.args.allowed.now in
    let rest : iter_rest (copied_source c.copied.result) ≡ counts = ap iter_rest c.copied.ensures.source ∙ c.iter.ensures.rest in
    let pairs = c.cartesian_product.ensures.rows rounds counts (YieldsList-from_range c.args.step (c.args.step + c.args.k + 1) (c.args.k + 1) refl (omega arith)).runs (λ j copy at same. (YieldsList-from_copied (YieldsList-from_slice counts (same ∙ (ap (λ i. iter_rest (copied_source i)) at ∙ rest)))).runs) (λ x copy same. same) in
    IfOk-weaker c.collect.result _ _ (λ v given.
    let run = given tt in
    let source = c.map.ensures.runs run.0 run.0.seen run.1 in
    let candidates : run.0.items ≡ map (candidate_at c.args.step) source.0.items = source.2.3 (candidate_at c.args.step) (λ x r f call. search rules) in
    let whole = items_from_whole_run (record { runs = pairs }) source.0 source.1 (source.2.0 ∙ run.2) in
    run.3.0 ∙ (candidates ∙ ap (map (candidate_at c.args.step)) (sym (map-id source.0.items) ∙ whole))) c.collect.ensures.runs
