-- What the costs of candidates say of one another.
use Rattle.std.proofs.{Common.{◌≡◌, ◌*◌, ◌-◌, ◌<◌, ◌≤◌, inl, inr, ℕ, List, [], ◌∷◌, length, map, subst, sym, refl, arith, All, AllPairs, Any, Contains, slice_index_or}, lemmas.{Bool.cases_order, List.{get_or-map, length-map}}}
use Rattle.std.proofs.lemmas.Option.{slice_get_within, slice_get-get_or, get_or_from_slice_get}
use Rattle.list_laws.proofs.Members.{Contains-map}
use Rattle.schedule.proofs.First.{Among-from_Contains, Contains-from_Among, map_among}
use Rattle.candidate_order.specs.{declared.{candidate.Candidate.Candidate, mark.Mark.TheVariants.{Optimal, Open}}, Costs.{NoWorse, Better, Before}, Frontiers.{QuestionValue, PointValue, UnknownValue, IsWithin}}
use Rattle.candidate_order.proofs.{Costing.{cost_upto, cost_below_right}, Orders.{Before-trans, has_chunk, Before-irrefl}}
use Rattle.pareto_search.specs.inner.Passing.{LastSettles, IsUnrivalled, IsMark}

-- of two candidates only one comes before the other
pub Before-asym : (q : QuestionValue) (x y : Candidate) → IsWithin q x → IsWithin q y → Before x y → Before y x → ⊥
Before-asym q x y wx wy a b =
    Before-irrefl x (Before-trans x y x (has_chunk q x wx) (has_chunk q y wy) (has_chunk q x wx) a b)

-- what is no worse than a better candidate comes first, and is no worse
pub no_worse_than_better : (x y z : Candidate) → 1 ≤ x.c → 1 ≤ y.c → NoWorse x y → Better y z → Before x z × NoWorse x z
no_worse_than_better x y z some_x some_y h (k, inl fewer) =
    (inl (omega arith), (omega arith, cost_upto x.r x.c y.r y.c z.r z.c (omega arith) h.1 k.1))
no_worse_than_better x y z some_x some_y h (k, inr lower) =
    let below = cost_below_right x.r x.c y.r y.c z.r z.c (omega arith) h.1 lower in
    elim (cases_order x.s z.s) [
      | inl same ↦ (inr (same, inl below), (omega arith, omega arith))
      | inr (inl fewer) ↦ (inl fewer, (omega arith, omega arith))
      | inr (inr more) ↦ absurd (omega arith)
    ]

-- each costs less than those before it
abbrev pub CostsFall : List Candidate → Type 0
CostsFall xs = AllPairs (λ a b. b.r * a.c < a.r * b.c) xs

-- where costs fall and no candidate has more steps, the last is no worse where one of them is
last_no_worse : (xs : List Candidate) (i j : ℕ) (x d : Candidate) → CostsFall xs → All (λ y. 1 ≤ y.c) xs → All (λ y. y.s ≤ x.s) xs → i ≤ j → j < length xs → NoWorse (slice_index_or xs i d) x → NoWorse (slice_index_or xs j d) x
last_no_worse xs i j x d falls some steps upto below h =
    elim (cases_order i j) [
      | inl same ↦ subst (λ k. NoWorse (slice_index_or xs k d) x) same h
      | inr (inl before) ↦ (
          let a = slice_index_or xs i d in
          let b = slice_index_or xs j d in
          (steps j d below, cost_upto b.r b.c a.r a.c x.r x.c (some i d (omega arith)) (omega (arith, falls i j d before below)) h.1)
          )
      | inr (inr after) ↦ absurd (omega arith)
    ]

-- where costs fall and no point has more steps, the last is no worse where any is
pub no_worse_last : (points : List PointValue) (x y : Candidate) → CostsFall (map (λ p. p.candidate) points) → All (λ z. 1 ≤ z.c) (map (λ p. p.candidate) points) → All (λ z. z.s ≤ x.s) (map (λ p. p.candidate) points) → Contains (map (λ p. p.candidate) points) y → NoWorse y x → LastSettles points x
no_worse_last [] x y falls some steps (i, below, at) h = absurd (omega arith)
no_worse_last (first ∷ rest) x y falls some steps (i, below, at) h =
    let points = first ∷ rest in
    let last = length points - 1 in
    let inside : last < length points = omega arith in
    let p = slice_index_or points last first in
    let size : length (map (λ (p : PointValue). p.candidate) points) ≡ length points = length-map points (λ (p : PointValue). p.candidate) in
    let there : slice_index_or (map (λ (p : PointValue). p.candidate) points) last y ≡ p.candidate = get_or-map (λ (p : PointValue). p.candidate) points last first y inside in
    let no_worse = last_no_worse (map (λ (p : PointValue). p.candidate) points) i last x y falls some steps (omega (arith, below, size)) (omega (arith, size)) (subst (λ z. NoWorse z x) (sym at) h) in
    (p, slice_get-get_or points last first inside, subst (λ z. NoWorse z x) there no_worse)

pub last_there : (points : List PointValue) (x : Candidate) → LastSettles points x → (p : Candidate) × Contains (map (λ p. p.candidate) points) p × NoWorse p x
last_there points x (p, at, h) =
    let last = length points - 1 in
    (p.candidate, Contains-map (λ (p : PointValue). p.candidate) points p (last, slice_get_within points last p at, get_or_from_slice_get points last p p at), h)

-- no candidate that was given up is better, or some is
pub marked_optimal : (us : List UnknownValue) (x : Candidate) → (Any (λ u. Better u.candidate x) us → ⊥) → IsMark (map (λ u. u.candidate) us) x Optimal
marked_optimal us x none = record { optimal = (λ _. unrivalled, λ _. refl); or_open = inl refl } where
  unrivalled : IsUnrivalled (map (λ u. u.candidate) us) x
  unrivalled y at better =
      let (u, among, is) = map_among (λ (u : UnknownValue). u.candidate) y us (Among-from_Contains y (map (λ u. u.candidate) us) at) in
      let (k, below, there) = Contains-from_Among u us among in
      none (k, u, below, there, subst (λ z. Better z x) (sym is) better)

pub marked_open : (us : List UnknownValue) (x : Candidate) → Any (λ u. Better u.candidate x) us → IsMark (map (λ u. u.candidate) us) x Open
marked_open us x (k, u, below, there, better) = record {
  optimal = (λ same. absurd cc, λ none. absurd (none u.candidate (Contains-map (λ (u : UnknownValue). u.candidate) us u (k, below, there)) better));
  or_open = inr refl;
}

pub better_first : (x y : Candidate) → Better x y → Before x y
better_first x y (h, inl fewer) = inl fewer
better_first x y (h, inr lower) =
    elim (cases_order x.s y.s) [
      | inl same ↦ inr (same, inl lower)
      | inr (inl fewer) ↦ inl fewer
      | inr (inr more) ↦ absurd (omega arith)
    ]

pub steps_upto : (x y : Candidate) → Before x y → x.s ≤ y.s
steps_upto x y (inl fewer) = omega arith
steps_upto x y (inr (same, h)) = omega arith
