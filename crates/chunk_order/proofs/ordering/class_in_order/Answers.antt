use Rattle.std.{proofs.Common.{ℕ, ◌≡◌, ◌-◌, List, [], ◌∷◌, length, map, flat_map, slice_index_or, arith, sym, ap, ◌∙◌}, specs.List.range_with_len}
use Rattle.cnf_formula.{specs.{Literals.{LitValue, negation}, Formulas.with_clauses}, proofs.Growing.grows_more}
use Rattle.send_encoding.specs.Variables.{arrival}
use Rattle.chunk_order.{specs.Ordering.pair_in_order, proofs.Pushing.nexts_by_place}
use Rattle.chunk_order.proofs.ordering.class_in_order.Goals as goal

pub loop-index-preserved : goal.loop-index-preserved
loop-index-preserved c =
    let m = c.args.map.now in
    let class = c.args.class.now in
    let node : ℕ = c.args.node in
    let g : ℕ → List (List LitValue) = λ k. pair_in_order m node (slice_index_or class (k - 1) 0, slice_index_or class k 0) in
    let j : ℕ = c.loop-index.index in
    let here : c.loop-step.formula ≡ with_clauses c.loop-index.formula (g j) =
    c.loop-step.invariant ∙ ap (λ n. with_clauses c.loop-index.formula (map (λ s. negation (arrival m (slice_index_or class j 0) node s) ∷ arrival m (slice_index_or class (j - 1) 0) node s ∷ []) (range_with_len 1 n))) (omega (arith, c.steps-step-end.ensures.steps, c.loop-step-test.false)) in
    record {
      pushed = grows_more c.args.formula.now c.loop-index.formula c.loop-step.formula g 1 (j - 1) j (omega arith) c.loop-index.invariant.pushed here ∙ ap (λ n. with_clauses c.args.formula.now (flat_map g (range_with_len 1 n))) (omega arith);
      within = omega (arith, c.loop-index-test.true);
    }

pub returns : goal.returns
returns c =
    let class = c.args.class.now in
    let turns : ℕ = c.loop-index.index - 1 in
    let end : turns ≡ length class - 1 = omega (arith, c.loop-index.invariant.within, c.loop-index-test.false) in
    c.loop-index.invariant.pushed ∙ ap (with_clauses c.args.formula.now) (sym (nexts_by_place (pair_in_order c.args.map.now c.args.node) class turns end))
