-- What a right frontier says, drawn out.
use Rattle.std.proofs.{Common.{◌≡◌, ◌∙◌, ◌<◌, ℕ, sym, subst, ap, true, false, inl, inr, List, [], length, arith, Contains, get_or}, lemmas.{Bool.cases_order, List.{get_or_default, get_or-map, length-map, Elements.All-contains}}}
use Rattle.list_laws.proofs.Members.{Contains-map}
use Rattle.candidate_order.specs.{declared.{candidate.Candidate.Candidate, mark.Mark.TheVariants.{Optimal, Open}}, Costs.{NoWorse, Better, Before}}
use Rattle.candidate_order.specs.Frontiers.{QuestionValue, PointValue, FrontierValue, solved, IsWithin, Achieves, IsSolvable, IsPoint, RightFrontier, Searched}
use Rattle.collective_spec.specs.Collectives.{adds_up}

pub none-contained : {X : Type 0} → (xs : List X) (x : X) → xs ≡ [] → Contains xs x → ⊥
none-contained xs x e h = absurd (let lt = rw e at h.1 in omega (arith, lt))

pub bare_right : (q : QuestionValue) (f : FrontierValue) → RightFrontier q f → f.points ≡ [] → f.refuted ≡ [] → f.unknown ≡ [] → (x : Candidate) → IsWithin q x → ⊥
bare_right q f right points refuted unknown x w = grind (arith, none-contained)

pub better_refuted : (q : QuestionValue) (f : FrontierValue) → RightFrontier q f → (p : PointValue) → Contains f.points p → p.mark ≡ Optimal → (x : Candidate) → IsWithin q x → Better x p.candidate → Contains f.refuted x
better_refuted q f right p h e x w b = let point : IsPoint q f.refuted p = All-contains (IsPoint q f.refuted) f.points p right.points h in (point.optimal.0 e) x w b

pub points_differ : (q : QuestionValue) (f : FrontierValue) → RightFrontier q f → Searched q f → (p : PointValue) → Contains f.points p → (x : Candidate) → Contains (solved f) x → Before x p.candidate → NoWorse x p.candidate → ⊥
points_differ q f right searched p h x at before no_worse =
    let point : IsPoint q f.refuted p = All-contains (IsPoint q f.refuted) f.points p right.points h in
    let tried = inl (Contains-map (λ a. a.candidate) f.points p h) in
    let worth = (searched.tried p.candidate point.within).0 tried in
    All-contains (λ a. Before a p.candidate → NoWorse a p.candidate → ⊥) (solved f) x worth at before no_worse

-- what stands before a candidate, and is no better, is no worse
no_worse_too : (a b : Candidate) → NoWorse a b → Before b a → NoWorse b a
no_worse_too a b (steps, cost) (inl fewer) = absurd (omega (arith, steps, fewer))
no_worse_too a b (steps, cost) (inr (same, inl lower)) = absurd (omega (arith, cost, lower))
no_worse_too a b (steps, cost) (inr (same, inr (level, fewer))) = (omega (arith, same), omega (arith, level))

module _ (q : QuestionValue) (f : FrontierValue) (right : RightFrontier q f) (searched : Searched q f) where
  -- the candidates of two points stand in the order of the points
  in_order : (a b : PointValue) (i j : ℕ) → i < j → j < length f.points → get_or f.points i a ≡ a → get_or f.points j b ≡ b → Before a.candidate b.candidate
  in_order a b i j first within here there =
      let ordered = searched.points_ascend i j a.candidate first (subst (λ n. j < n) (sym (length-map f.points (λ (p : PointValue). p.candidate))) within) in
      let at_first : get_or (solved f) i a.candidate ≡ a.candidate = get_or-map (λ p. p.candidate) f.points i a a.candidate (omega (arith, first, within)) ∙ ap (λ p. p.candidate) here in
      let at_second : get_or (solved f) j a.candidate ≡ b.candidate = get_or-map (λ p. p.candidate) f.points j b a.candidate within ∙ ap (λ p. p.candidate) there in
      subst (λ x. Before x b.candidate) at_first (subst (Before (get_or (solved f) i a.candidate)) at_second ordered)

  -- a point is no worse than itself alone
  pub stands_alone : (a b : PointValue) → Contains f.points a → Contains f.points b → NoWorse a.candidate b.candidate → a ≡ b
  stands_alone a b (i, i_within, here) (j, j_within, there) no_worse =
      elim (cases_order i j) [
        | inl same ↦ sym here ∙ get_or_default f.points i a b i_within ∙ ap (λ k. get_or f.points k b) same ∙ there
        | inr (inl first) ↦ absurd (points_differ q f right searched b (j, j_within, there) a.candidate (Contains-map (λ p. p.candidate) f.points a (i, i_within, here)) (in_order a b i j first j_within here there) no_worse)
        | inr (inr second) ↦ (let before = in_order b a j i second i_within there here in
            absurd (points_differ q f right searched a (i, i_within, here) b.candidate (Contains-map (λ p. p.candidate) f.points b (j, j_within, there)) before (no_worse_too a.candidate b.candidate no_worse before)))
      ]

pub never_both : (q : QuestionValue) (f : FrontierValue) → RightFrontier q f → (p : PointValue) → Contains f.points p → Contains f.refuted p.candidate → ⊥
never_both q f right p h r =
    let point : IsPoint q f.refuted p = All-contains (IsPoint q f.refuted) f.points p right.points h in
    All-contains (λ x. IsSolvable q x → ⊥) f.refuted p.candidate right.refuted r (p.schedule, point.solves)

pub point_achieves : (q : QuestionValue) (f : FrontierValue) → RightFrontier q f → (p : PointValue) → Contains f.points p → Achieves (adds_up q.spec) q p.candidate p.schedule
point_achieves q f right p h = let point : IsPoint q f.refuted p = All-contains (IsPoint q f.refuted) f.points p right.points h in point.solves.achieves

pub point_sums : (q : QuestionValue) (f : FrontierValue) → RightFrontier q f → (p : PointValue) → Contains f.points p → adds_up q.spec ≡ true → Achieves true q p.candidate p.schedule
point_sums q f right p h adds = subst (λ adding. Achieves adding q p.candidate p.schedule) adds (point_achieves q f right p h)

pub point_solves : (q : QuestionValue) (f : FrontierValue) → RightFrontier q f → (p : PointValue) → Contains f.points p → adds_up q.spec ≡ false → Achieves false q p.candidate p.schedule
point_solves q f right p h copies = subst (λ adding. Achieves adding q p.candidate p.schedule) copies (point_achieves q f right p h)

pub open_not_all : (q : QuestionValue) (f : FrontierValue) → RightFrontier q f → (p : PointValue) → Contains f.points p → p.mark ≡ Open → ((x : Candidate) → IsWithin q x → Better x p.candidate → Contains f.refuted x) → ⊥
open_not_all q f right p h opened all = grind (arith, All-contains (IsPoint q f.refuted) f.points p right.points h, (All-contains (IsPoint q f.refuted) f.points p right.points h).optimal.1 all)
