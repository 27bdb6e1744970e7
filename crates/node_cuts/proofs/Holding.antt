-- The holders of each chunk tell what has to come into a set.
use Rattle.std.{proofs.{Common.{◌≡◌, ℕ, ◌+◌, ◌<◌, ◌&&◌, cond, List, map, ◌∙◌, arith, count_by, not}, lemmas.List.Folds.fold-map}, specs.List.{list_any, range_with_len}}
use Rattle.schedule.{specs.Placed.{PlacementValue, IsPlacement}, proofs.Spreading.sum_alike}
use Rattle.node_cuts.{specs.{Sides.NodeSet, Cuts.{is_needed, need_of, stands_in}, Holders.{HoldersValue, is_lacking, nodes_with}}, proofs.{Choosing.any_filter, Scaling.stands_by}}

-- the holders of each chunk
abbrev pub all_holders : PlacementValue → PlacementValue → List HoldersValue
all_holders pre post = map (λ chunk. record { before = nodes_with pre chunk; after = nodes_with post chunk }) (range_with_len 0 post.chunks)

has_some : (u : NodeSet) (p : PlacementValue) (chunk : ℕ) → IsPlacement p → chunk < p.chunks → list_any u (nodes_with p chunk) ≡ stands_in u p chunk
has_some u p chunk is below = grind (arith, any_filter, stands_by)

pub need_by_holders : (u : NodeSet) (pre post : PlacementValue) → IsPlacement pre → IsPlacement post → post.chunks ≡ pre.chunks → count_by (is_lacking u) (all_holders pre post) ≡ need_of u pre post
need_by_holders u pre post before after same =
    let f : ℕ → HoldersValue = λ chunk. record { before = nodes_with pre chunk; after = nodes_with post chunk } in
    fold-map (λ n h. n + cond (is_lacking u h) 1 0) f 0 (range_with_len 0 post.chunks)
    ∙ sum_alike (λ k. cond (is_lacking u (f k)) 1 0) (λ k. cond (is_needed u pre post k) 1 0) 0 post.chunks (λ k low high.
    let one : list_any u (nodes_with post k) ≡ stands_in u post k = has_some u post k after (omega (arith, high)) in
    let other : list_any u (nodes_with pre k) ≡ stands_in u pre k = has_some u pre k before (omega (arith, high, same)) in
    λ i. cond (one i && not (other i)) 1 0)
