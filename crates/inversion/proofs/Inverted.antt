-- A right and searched frontier of a question of copying, with its schedules inverted, is one of another question, where the two fit.
use Rattle.std.proofs.{Common.{◌≡◌, ℕ, zero, suc, inl, inr, List, [], ◌∷◌, get_or, map, refl, sym, ap, ◌∙◌, subst, arith, ◌≢◌, ◌↔◌, ◌⊎◌, All, AllPairs, Any, Contains}, lemmas.List.{length-map, Elements.{All-map, All-weaker}}}
use Rattle.schedule.specs.Inverse.{inverse_of}
use Rattle.collective_spec.specs.declared.kind.Kind.TheVariants as kind
use Rattle.collective_spec.specs.Collectives.{adds_up, kind_in}
use Rattle.candidate_order.specs.{declared.candidate.Candidate.Candidate, Costs.{NoWorse, Before}}
use Rattle.candidate_order.specs.Frontiers.{QuestionValue, PointValue, FrontierValue, given_up, solved, IsWithin, IsSolvedBy, IsSolvable, IsPoint, IsUnknown, IsAnswered, RightFrontier, Searched, WastesNothing}
use Rattle.inversion.specs.Inverted.{inverted_frontier, inverted_point}

-- what is asked and had in the one question, is in the other, by inverses
pub record Inverts (q p : QuestionValue) : Type 0 where
  pub single : kind_in q.spec ≢ kind.Allreduce
  pub there : (x : Candidate) → IsWithin q x → IsWithin p x
  pub back : (x : Candidate) → IsWithin p x → IsWithin q x
  pub conflicts : p.limits.conflicts ≡ q.limits.conflicts
  pub solved : (a : PointValue) → IsSolvedBy p a.candidate a.schedule → WastesNothing (adds_up p.spec) p a → IsSolvedBy q a.candidate (inverse_of a.schedule)
  pub solvable : (x : Candidate) → IsSolvable q x → IsSolvable p x
  pub wastes : (a : PointValue) → IsSolvedBy p a.candidate a.schedule → WastesNothing (adds_up p.spec) p a → WastesNothing (adds_up q.spec) q (inverted_point a)

get_or-mapped : (xs : List PointValue) (k : ℕ) (a : PointValue) → get_or (map inverted_point xs) k (inverted_point a) ≡ inverted_point (get_or xs k a)
get_or-mapped [] k a = refl
get_or-mapped (x ∷ xs) zero a = refl
get_or-mapped (x ∷ xs) (suc k) a = get_or-mapped xs k a

-- inverting keeps the candidates
solved_inverted : (points : List PointValue) → map (λ a. a.candidate) (map inverted_point points) ≡ map (λ a. a.candidate) points
solved_inverted [] = refl
solved_inverted (a ∷ points) = ap (λ xs. a.candidate ∷ xs) (solved_inverted points)

any_inverted : (x : Candidate) (points : List PointValue) → Any (λ a. NoWorse a.candidate x) points → Any (λ a. NoWorse a.candidate x) (map inverted_point points)
any_inverted x points any =
    (any.0, inverted_point any.1, omega (arith, any.2, length-map points inverted_point), get_or-mapped points any.0 any.1 ∙ ap inverted_point any.3, any.4)

point_inverted : (q p : QuestionValue) (refuted : List Candidate) (a : PointValue) → Inverts q p → IsPoint p refuted a → WastesNothing (adds_up p.spec) p a → IsPoint q refuted (inverted_point a)
point_inverted q p refuted a facts point wastes = grind arith

pub right_inverted : (q p : QuestionValue) (f : FrontierValue) → Inverts q p → RightFrontier p f → Searched p f → RightFrontier q (inverted_frontier f)
right_inverted q p f facts right searched = record {
  single = facts.single;
  points = All-map (IsPoint q f.refuted) inverted_point f.points (λ k d inside. point_inverted q p f.refuted _ facts (right.points k d inside) (searched.tight k d inside));
  refuted = All-weaker (λ x. IsSolvable p x → ⊥) (λ x. IsSolvable q x → ⊥) (λ x never solvable. never (facts.solvable x solvable)) f.refuted right.refuted;
  unknown = All-weaker (IsUnknown p) (IsUnknown q) (λ u is. record { within = facts.back u.candidate is.within; conflicts = is.conflicts ∙ facts.conflicts }) f.unknown right.unknown;
  whole = λ x within. answered x (right.whole x (facts.there x within));
}
  where
    answered : (x : Candidate) → IsAnswered f x → IsAnswered (inverted_frontier f) x
    answered x (inl any) = inl (any_inverted x f.points any)
    answered x (inr rest) = inr rest

pub searched_inverted : (q p : QuestionValue) (f : FrontierValue) → Inverts q p → RightFrontier p f → Searched p f → Searched q (inverted_frontier f)
searched_inverted q p f facts right searched = record {
  points_ascend = subst (AllPairs Before) same searched.points_ascend;
  refuted_ascend = searched.refuted_ascend;
  unknown_ascend = searched.unknown_ascend;
  points_apart = subst (All (λ x. (Contains f.refuted x ⊎ Contains (given_up f) x) → ⊥)) same searched.points_apart;
  refuted_apart = searched.refuted_apart;
  tried = λ x within. subst (λ xs. (Contains xs x ⊎ (Contains f.refuted x ⊎ Contains (given_up f) x)) ↔ All (λ a. Before a x → NoWorse a x → ⊥) xs) same (searched.tried x (facts.there x within));
  tight = All-map (WastesNothing (adds_up q.spec) q) inverted_point f.points (λ k d inside. facts.wastes _ (right.points k d inside).solves (searched.tight k d inside));
}
  where
    same : solved f ≡ solved (inverted_frontier f)
    same = sym (solved_inverted f.points)
