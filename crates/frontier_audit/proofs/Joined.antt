-- The checks of joined points pass exactly where they are the joins.
use Rattle.std.proofs.{Common.{arith, ◌≡◌, true, Decides, List, [], ◌∷◌, map, Ok, refl, sym, ap, ◌∙◌, ◌&&◌, not, All}, lemmas.Bool.{and_parts, eqb-true, eq-eqb, and_from}}
use Rattle.std.proofs.lemmas.{Slice.Eq.{bytes_eq-Decides, slice_eq-Decides}, List.Elements.{All-nil, All-cons, All-head, All-tail}}
use Rattle.text_lines.specs.Check.{refuse}
use Rattle.schedule.specs.{Links.TopologyValue}
use Rattle.candidate_order.specs.{Frontiers.PointValue}
use Rattle.allreduce_join.{specs.Joins.{join_of, IsJoin}, proofs.Told.all_summed_exactly}
use Rattle.frontier_audit.specs.{declared.verdict.Reason.TheVariants.JoinWrong, inner.Steps.is_join, Joining.{same_point, joins_checked, IsSummable}}
use Rattle.frontier_audit.proofs.{Passing.{then_ok, ok_then, refused_not, not_refused}, Tried.same_decides, Solved.sums_said}

-- ---- the test of the same point

point_decides : (a b : PointValue) → Decides (same_point a b) (a ≡ b)
point_decides a b = grind (arith, same_decides, bytes_eq-Decides, slice_eq-Decides, eqb-true, eq-eqb)

pub point_is : (a b : PointValue) → same_point a b ≡ true → a ≡ b
point_is a b = (point_decides a b).0

-- ---- the joins

-- the printed points are the joins of these pairs, in their order
pub record AreJoined (t : TopologyValue) (pairs : List (PointValue × PointValue)) (joined : List PointValue) : Type 0 where
  pub in_order : joined ≡ map (λ pair. join_of pair.0 pair.1) pairs
  pub summed : All (IsJoin t) pairs

joined_by : (t : TopologyValue) (pair : PointValue × PointValue) (p : PointValue) → IsSummable t p → p ≡ join_of pair.0 pair.1 → is_join t pair ≡ true → IsJoin t pair
joined_by t pair p ok same e = grind (arith, all_summed_exactly, sums_said)

by_join : (t : TopologyValue) (pair : PointValue × PointValue) (p : PointValue) → IsSummable t p → p ≡ join_of pair.0 pair.1 → IsJoin t pair → is_join t pair ≡ true
by_join t pair p ok same h = grind (arith, all_summed_exactly)

pub are_joined : (t : TopologyValue) (pairs : List (PointValue × PointValue)) (joined : List PointValue) → All (IsSummable t) joined → joins_checked t pairs joined ≡ Ok tt → AreJoined t pairs joined
are_joined t [] [] a e = record { in_order = refl; summed = All-nil (IsJoin t) }
are_joined t [] (p ∷ ps) a e = absurd (cc)
are_joined t (pair ∷ pairs) [] a e = absurd (cc)
are_joined t (pair ∷ pairs) (p ∷ ps) a e =
    let due = join_of pair.0 pair.1 in
    let parts = then_ok (refuse (not (is_join t pair && same_point due p)) (JoinWrong, due.candidate)) (joins_checked t pairs ps) e in
    let tests = and_parts (is_join t pair) (same_point due p) (refused_not (is_join t pair && same_point due p) (JoinWrong, due.candidate) parts.0) in
    let same : p ≡ due = sym (point_is due p tests.1) in
    let rest = are_joined t pairs ps (All-tail (IsSummable t) p ps a) parts.1 in
    record {
      in_order = ap (λ x. x ∷ ps) same ∙ ap (λ xs. due ∷ xs) rest.in_order;
      summed = All-cons (IsJoin t) pair pairs (joined_by t pair p (All-head (IsSummable t) p ps a) same tests.0) rest.summed;
    }

first_of_two : {X : Type 0} (x y : X) (xs ys : List X) → x ∷ xs ≡ y ∷ ys → (x ≡ y) × (xs ≡ ys)
first_of_two x y xs ys e = (cc, cc)

pub joined_are : (t : TopologyValue) (pairs : List (PointValue × PointValue)) (joined : List PointValue) → All (IsSummable t) joined → AreJoined t pairs joined → joins_checked t pairs joined ≡ Ok tt
joined_are t [] [] a h = refl
joined_are t [] (p ∷ ps) a h = absurd (let e = h.in_order in cc)
joined_are t (pair ∷ pairs) [] a h = absurd (let e = h.in_order in cc)
joined_are t (pair ∷ pairs) (p ∷ ps) a h =
    let due = join_of pair.0 pair.1 in
    let both = first_of_two p due ps (map (λ x. join_of x.0 x.1) pairs) h.in_order in
    ok_then (refuse (not (is_join t pair && same_point due p)) (JoinWrong, due.candidate)) (joins_checked t pairs ps)
    (not_refused (is_join t pair && same_point due p) (JoinWrong, due.candidate)
    (and_from (is_join t pair) (same_point due p) (by_join t pair p (All-head (IsSummable t) p ps a) both.0 (All-head (IsJoin t) pair pairs h.summed)) ((point_decides due p).1 (sym both.0))))
    (joined_are t pairs ps (All-tail (IsSummable t) p ps a) (record { in_order = both.1; summed = All-tail (IsJoin t) pair pairs h.summed }))
