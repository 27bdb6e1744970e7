-- The points of right and searched frontiers of the two parts of an allreduce have their joins.
use Rattle.std.proofs.{Common.{◌≡◌, ℕ, ◌*◌, ◌<◌, false, map, refl, subst, arith}, lemmas.List.Elements.{All-contains, All-from_recursion}}
use Rattle.schedule.{specs.Links.{TopologyValue, reversed_of}, proofs.First.{Contains-from_Among, each_among}}
use Rattle.collective_spec.specs.{declared.layout.Layout.TheVariants.Scattered, Layouts.laid_out}
use Rattle.candidate_order.specs.{Ranges.LimitsValue, Frontiers.{PointValue, FrontierValue, IsPoint, IsSolvedBy, RightFrontier, Searched, WastesNothing}}
use Rattle.inversion.{specs.Inverted.inverted_frontier, proofs.Reducing.{reduction_right, reduction_searched}}
use Rattle.allreduce_join.{specs.{Joins.{IsJoin, Joins, join_of, pairs_of}, Parts.{gather_part, reduce_part}}, proofs.{Paired.{IsPair, pairs_among}, Summed.join_sums}}

-- what is had of a point of the second part
record Gathers (root : ℕ) (t : TopologyValue) (limits : LimitsValue) (c : ℕ) (b : PointValue) : Type 0 where
  by : IsSolvedBy (gather_part root t limits) (record { s = b.candidate.s; r = b.candidate.r; c = c }) b.schedule
  tight : WastesNothing false (gather_part root t limits) (record { candidate = record { s = b.candidate.s; r = b.candidate.r; c = c }; schedule = b.schedule; mark = b.mark })

pub points_join : (root : ℕ) (t : TopologyValue) (limits : LimitsValue) (a b : PointValue) → 0 < t.nodes → IsSolvedBy (reduce_part root t limits) a.candidate a.schedule → IsSolvedBy (gather_part root t limits) b.candidate b.schedule → WastesNothing false (gather_part root t limits) b → b.candidate.c ≡ a.candidate.c → IsJoin t (a, b)
points_join root t limits a b some adds copies tight same =
    let had : Gathers root t limits a.candidate.c b = subst (λ c. Gathers root t limits c b) same (record { by = copies; tight = tight }) in
    join_sums t (laid_out Scattered (t.nodes * a.candidate.c) t.nodes) a.schedule b.schedule a.candidate.s a.candidate.r b.candidate.s b.candidate.r some refl adds.valid adds.achieves had.by.valid had.by.in_range had.tight had.by.achieves

pub frontiers_join : (root : ℕ) (t : TopologyValue) (limits : LimitsValue) (f g : FrontierValue) → 0 < t.nodes → RightFrontier (reduce_part root t limits) f → RightFrontier (gather_part root t limits) g → Searched (gather_part root t limits) g → Joins t f.points g.points (map (λ pair. join_of pair.0 pair.1) (pairs_of f.points g.points))
frontiers_join root t limits f g some first second searched = record {
  in_order = refl;
  summed = All-from_recursion (IsJoin t) (pairs_of f.points g.points) (each_among (IsJoin t) (pairs_of f.points g.points) (λ pair among. joined pair (pairs_among f.points g.points pair among)));
}
  where
    joined : (pair : PointValue × PointValue) → IsPair f.points g.points pair → IsJoin t pair
    joined pair is =
        let a : IsPoint (reduce_part root t limits) f.refuted pair.0 = All-contains (IsPoint (reduce_part root t limits) f.refuted) f.points pair.0 first.points (Contains-from_Among pair.0 f.points is.of_reduce) in
        let b : IsPoint (gather_part root t limits) g.refuted pair.1 = All-contains (IsPoint (gather_part root t limits) g.refuted) g.points pair.1 second.points (Contains-from_Among pair.1 g.points is.of_gather) in
        let tight : WastesNothing false (gather_part root t limits) pair.1 = All-contains (WastesNothing false (gather_part root t limits)) g.points pair.1 searched.tight (Contains-from_Among pair.1 g.points is.of_gather) in
        points_join root t limits pair.0 pair.1 some a.solves b.solves tight is.same_count

-- ---- the first part by inversion

pub first_part_right : (root : ℕ) (t : TopologyValue) (limits : LimitsValue) (f : FrontierValue) → root < t.nodes → RightFrontier (gather_part root (reversed_of t) limits) f → Searched (gather_part root (reversed_of t) limits) f → RightFrontier (reduce_part root t limits) (inverted_frontier f)
first_part_right root t limits f below right searched = reduction_right (reduce_part root t limits) f refl (refl, below) right searched

pub first_part_searched : (root : ℕ) (t : TopologyValue) (limits : LimitsValue) (f : FrontierValue) → root < t.nodes → RightFrontier (gather_part root (reversed_of t) limits) f → Searched (gather_part root (reversed_of t) limits) f → Searched (reduce_part root t limits) (inverted_frontier f)
first_part_searched root t limits f below right searched = reduction_searched (reduce_part root t limits) f refl (refl, below) right searched

pub both_parts_join : (root : ℕ) (t : TopologyValue) (limits : LimitsValue) (f g : FrontierValue) → root < t.nodes → RightFrontier (gather_part root (reversed_of t) limits) f → Searched (gather_part root (reversed_of t) limits) f → RightFrontier (gather_part root t limits) g → Searched (gather_part root t limits) g → Joins t (inverted_frontier f).points g.points (map (λ pair. join_of pair.0 pair.1) (pairs_of (inverted_frontier f).points g.points))
both_parts_join root t limits f g below right searched second searched_too =
    frontiers_join root t limits (inverted_frontier f) g (omega (arith, below)) (first_part_right root t limits f below right searched) second searched_too
