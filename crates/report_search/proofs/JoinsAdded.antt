-- What a turn of the loops over two lists of points adds.
use Rattle.std.proofs.{Common.{◌≡◌, ◌==◌, ℕ, ◌+◌, ◌<◌, Bool, List, [], ◌∷◌, ◌++◌, length, get_or, map, take, refl, sym, ap, ◌∙◌, filter}, lemmas.{Grind.flat_map-append, List.{append-nil, map-append, take_more}}}
use Rattle.candidate_order.specs.Frontiers.{PointValue}
use Rattle.allreduce_join.specs.Joins.{join_of, pairs_of}
use Rattle.report_search.specs.inner.Reporting.{joins_of}

abbrev pub has_count : PointValue → PointValue → Bool
has_count p q = q.candidate.c == p.candidate.c

-- the joins of one point
abbrev pub joined_with : PointValue → List PointValue → List PointValue
joined_with p gather = map (join_of p) (filter (has_count p) gather)

-- ---- the first list

abbrev join_pair : PointValue × PointValue → PointValue
join_pair pair = join_of pair.0 pair.1

of_pairs : (p : PointValue) (qs : List PointValue) → map join_pair (map (λ q. (p, q)) qs) ≡ map (join_of p) qs
of_pairs p [] = refl
of_pairs p (q ∷ qs) = ap (λ xs. join_of p q ∷ xs) (of_pairs p qs)

joins-append : (xs ys gather : List PointValue) → joins_of (xs ++ ys) gather ≡ joins_of xs gather ++ joins_of ys gather
joins-append xs ys gather =
    ap (map join_pair) (flat_map-append (λ p. map (λ q. (p, q)) (filter (has_count p) gather)) xs ys)
    ∙ map-append join_pair (pairs_of xs gather) (pairs_of ys gather)

joins-one : (p : PointValue) (gather : List PointValue) → joins_of (p ∷ []) gather ≡ joined_with p gather
joins-one p gather = ap (map join_pair) (append-nil (map (λ q. (p, q)) (filter (has_count p) gather))) ∙ of_pairs p (filter (has_count p) gather)

pub joins_more : (reduce gather before after : List PointValue) (k : ℕ) (d : PointValue) → k < length reduce → before ≡ joins_of (take k reduce) gather → after ≡ before ++ joined_with (get_or reduce k d) gather → after ≡ joins_of (take (k + 1) reduce) gather
joins_more reduce gather before after k d low so_far pushed =
    pushed ∙ ap (λ xs. xs ++ joined_with (get_or reduce k d) gather) so_far ∙ ap (λ xs. joins_of (take k reduce) gather ++ xs) (sym (joins-one (get_or reduce k d) gather))
    ∙ sym (joins-append (take k reduce) (get_or reduce k d ∷ []) gather) ∙ ap (λ xs. joins_of xs gather) (sym (take_more reduce k d low))
