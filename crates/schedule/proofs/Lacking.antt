-- The first pair that is demanded and not held.
use Rattle.std.{proofs.Common.{◌≡◌, ℕ, not, sym, ap, ◌∙◌}, specs.List.find}
use Rattle.schedule.{specs.Placed.{PlacementValue, IsPlacement, holds, lacks, all_pairs}, proofs.Grids.{rows_from, rows_start, find-filter}}

pub all_lacking : (last post : PlacementValue) (chunks nodes : ℕ) → post.chunks ≡ chunks → nodes ≡ post.nodes → IsPlacement post → find (lacks post last) (rows_from 0 chunks nodes) ≡ find (λ pair. not (holds last pair)) post.pairs
all_lacking last post chunks nodes chunks_are nodes_are is =
    ap (λ c. find (lacks post last) (rows_from 0 c nodes)) (sym chunks_are)
    ∙ (ap (λ n. find (lacks post last) (rows_from 0 post.chunks n)) nodes_are
    ∙ (ap (find (lacks post last)) (rows_start post.chunks post.nodes)
    ∙ (sym (find-filter (λ pair. not (holds last pair)) (holds post) (all_pairs post.chunks post.nodes))
    ∙ ap (find (λ pair. not (holds last pair))) (sym (ap (λ (p : PlacementValue). p.pairs) is)))))
