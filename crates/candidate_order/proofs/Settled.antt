-- Two searches that give up nothing find points of the same candidates, and refute the same ones.
use Rattle.std.proofs.{Common.{arith, ◌≡◌, List, [], inl, inr, ⊎_elim, sym, subst, ◌⊎◌, All, Contains}, lemmas.List.Elements.All-contains}
use Rattle.list_laws.proofs.Each.{all_contained}
use Rattle.schedule.proofs.First.{Among-from_Contains, Contains-from_Among, map_among}
use Rattle.candidate_order.specs.{declared.candidate.Candidate.Candidate, Costs.{NoWorse, Before}}
use Rattle.candidate_order.specs.Frontiers.{QuestionValue, PointValue, FrontierValue, solved, given_up, IsWithin, IsSolvable, IsPoint, RightFrontier, IsWorthTrying, Searched}
use Rattle.candidate_order.proofs.{Orders.{Before-trans, has_chunk, HasChunk}, Frontiers.none-contained, Turns.one_by_turns, Unique.{candidates_apart, one_list_of_candidates}}

module _ (q : QuestionValue) where
  -- the candidate of a point is within the limits, and its schedule shows that it can be solved
  record IsSettled (x : Candidate) : Type 0 where
    within : IsWithin q x
    solvable : IsSolvable q x

  settled_by : (refuted : List Candidate) (p : PointValue) → IsPoint q refuted p → IsSettled p.candidate
  settled_by refuted p point = record { within = point.within; solvable = (p.schedule, point.solves) }

  settled : (f : FrontierValue) → RightFrontier q f → (x : Candidate) → Contains (solved f) x → IsSettled x
  settled f right x has =
      let (p, among, is) = map_among (λ (p : PointValue). p.candidate) x f.points (Among-from_Contains x (solved f) has) in
      let point = All-contains (IsPoint q f.refuted) f.points p right.points (Contains-from_Among p f.points among) in
      subst IsSettled is (settled_by f.refuted p point)

  -- what is worth trying is a point or refuted, where nothing is given up
  decided : (f : FrontierValue) → Searched q f → f.unknown ≡ [] → (x : Candidate) → IsWithin q x → IsWorthTrying f x → Contains (solved f) x ⊎ Contains f.refuted x
  decided f searched none x within worth = grind (arith, none-contained)

  module _ (f g : FrontierValue) (right_f : RightFrontier q f) (right_g : RightFrontier q g) (searched_f : Searched q f) (searched_g : Searched q g) where
    -- a point of the one is a point of the other, where the points of the other before it are points of the one
    point_settles : g.unknown ≡ [] → (x : Candidate) → Contains (solved f) x → ((y : Candidate) → Contains (solved g) y → Before y x → Contains (solved f) y) → Contains (solved g) x
    point_settles none x has earlier =
        ⊎_elim
        (λ point. point)
        (λ (refuted : Contains g.refuted x). absurd (All-contains (λ y. IsSolvable q y → ⊥) g.refuted x right_g.refuted refuted is.solvable))
        (decided g searched_g none x is.within worth)
      where
        is : IsSettled x
        is = settled f right_f x has

        worth : IsWorthTrying g x
        worth = all_contained (λ p. Before p x → NoWorse p x → ⊥) (solved g) (λ p at before.
            All-contains (λ y. Before y x → NoWorse y x → ⊥) (solved f) p ((searched_f.tried x is.within).0 (inl has)) (earlier p at before) before)

    -- what the one refutes the other refutes, where their points are the same
    refuted_settles : g.unknown ≡ [] → solved f ≡ solved g → (x : Candidate) → IsWithin q x → Contains f.refuted x → Contains g.refuted x
    refuted_settles none same x within refuted =
        ⊎_elim
        (λ (point : Contains (solved g) x). absurd (All-contains (λ y. (Contains f.refuted y ⊎ Contains (given_up f) y) → ⊥) (solved f) x searched_f.points_apart (subst (λ xs. Contains xs x) (sym same) point) (inl refuted)))
        (λ h. h)
        (decided g searched_g none x within (subst (All (λ p. Before p x → NoWorse p x → ⊥)) same ((searched_f.tried x within).0 (inr (inl refuted)))))

pub same_points : (q : QuestionValue) (f g : FrontierValue) → RightFrontier q f → Searched q f → RightFrontier q g → Searched q g → f.unknown ≡ [] → g.unknown ≡ [] → solved f ≡ solved g
same_points q f g right_f searched_f right_g searched_g none_f none_g =
    one_by_turns Before HasChunk candidates_apart Before-trans (solved f) (solved g)
    (λ x has. has_chunk q x (settled q f right_f x has).within) (λ x has. has_chunk q x (settled q g right_g x has).within)
    (point_settles q f g right_f right_g searched_f searched_g none_g) (point_settles q g f right_g right_f searched_g searched_f none_f)
    searched_f.points_ascend searched_g.points_ascend

pub same_refuted : (q : QuestionValue) (f g : FrontierValue) → RightFrontier q f → Searched q f → RightFrontier q g → Searched q g → All (IsWithin q) f.refuted → All (IsWithin q) g.refuted → f.unknown ≡ [] → g.unknown ≡ [] → f.refuted ≡ g.refuted
same_refuted q f g right_f searched_f right_g searched_g within_f within_g none_f none_g = grind (arith, same_points q f g right_f searched_f right_g searched_g none_f none_g, one_list_of_candidates, refuted_settles, All-contains)
