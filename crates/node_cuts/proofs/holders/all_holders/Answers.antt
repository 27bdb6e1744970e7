use Rattle.std.{proofs.{Common.{◌≡◌, ℕ, [], ◌∷◌, ◌++◌, count_by, length, map, sym, ap, ◌∙◌, arith}, lemmas.List.{length-map, FromFn.{length-range_with_len, map-range_with_len_more}}}, specs.List.range_with_len}
use Rattle.schedule.specs.Placed.{PlacementValue}
use Rattle.node_cuts.{specs.Holders.{HoldersValue, is_lacking, nodes_with}, proofs.Holding.{all_holders, need_by_holders}}
use Rattle.node_cuts.proofs.holders.all_holders.Goals as goal

abbrev holders_of : PlacementValue → PlacementValue → ℕ → HoldersValue
holders_of pre post chunk = record { before = nodes_with pre chunk; after = nodes_with post chunk }

pub loop-chunk-preserved : goal.loop-chunk-preserved
loop-chunk-preserved c =
    let f : ℕ → HoldersValue = holders_of c.args.instance.now.pre c.args.instance.now.post in
    let n : ℕ = c.loop-chunk.chunk in
    c.in_ok-push.ensures.items ∙ (λ i. c.loop-chunk.invariant i ++ record { before = c.in_ok-before.ensures i; after = c.in_ok-after.ensures i } ∷ []) ∙ sym (map-range_with_len_more f 0 n n (omega arith))

pub returns : goal.returns
returns c =
    let i = c.args.instance.now in
    let n : ℕ = c.loop-chunk.chunk in
    let size : n ≡ i.post.chunks = omega (arith, c.loop-chunk-test.false, c.loop-chunk.auto.chunk-end, c.chunks-chunk-end.ensures.chunks) in
    let all_is : c.loop-chunk.all.items ≡ all_holders i.pre i.post = c.loop-chunk.invariant ∙ ap (λ k. map (holders_of i.pre i.post) (range_with_len 0 k)) size in
    let long : length c.loop-chunk.all.items ≡ n = ap length c.loop-chunk.invariant ∙ length-map (range_with_len 0 n) (holders_of i.pre i.post) ∙ length-range_with_len 0 n in
    record {
      need = λ u. ap (count_by (is_lacking u)) all_is ∙ need_by_holders u i.pre i.post c.chunks-chunks.ensures.limits c.chunks-chunk-end.ensures.limits c.requires;
      few = omega (arith, long, size, c.chunks-chunk-end.ensures.chunks, c.chunks-chunk-end.type_inv);
    }
