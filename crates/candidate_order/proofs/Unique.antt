-- Two ascending lists with the same members are one list.
use Rattle.std.proofs.Common.{◌≡◌, suc, List, [], ◌∷◌, inl, inr, refl, sym, ap, ◌∙◌, subst, arith, ◌↔◌, AllPairs, Contains}
use Rattle.list_laws.proofs.Pairs.{pairs_tail}
use Rattle.schedule.proofs.First.{Among, Among-from_Contains, Contains-from_Among}
use Rattle.candidate_order.specs.{declared.candidate.Candidate.Candidate, Costs.Before}

-- the two lists have the same items
abbrev Same : {X : Type 0} → List X → List X → Type 0
Same {X} xs ys = (z : X) → (Among z xs → Among z ys) × (Among z ys → Among z xs)

module _ {X : Type 0} (R : X → X → Type 0) where
  -- the first stands before each later one
  first_before : (x : X) (xs : List X) → AllPairs R (x ∷ xs) → (z : X) → Among z xs → R x z
  first_before x xs ascending z among =
      let (k, low, is) = Contains-from_Among z xs among in
      subst (R x) is (ascending 0 (suc k) z (omega arith) (omega (arith, low)))

module _ {X : Type 0} (R : X → X → Type 0) (never_both : (a b : X) → R a b → R b a → ⊥) where
  -- the first of both
  one_first : (x y : X) (xs ys : List X) → AllPairs R (x ∷ xs) → AllPairs R (y ∷ ys) → Same (x ∷ xs) (y ∷ ys) → x ≡ y
  one_first x y xs ys first second same = by_place ((same x).0 (inl refl)) ((same y).1 (inl refl))
    where
      by_place : Among x (y ∷ ys) → Among y (x ∷ xs) → x ≡ y
      by_place (inl here) other = sym here
      by_place (inr later) (inl here) = here
      by_place (inr later) (inr deep) = absurd (never_both x y (first_before R x xs first y deep) (first_before R y ys second x later))

  -- what stands behind the first of one list stands behind that of the other
  behind_first : (x y : X) (xs ys : List X) → AllPairs R (x ∷ xs) → x ≡ y → ((z : X) → Among z (x ∷ xs) → Among z (y ∷ ys)) → (z : X) → Among z xs → Among z ys
  behind_first x y xs ys first is all z among = by_place (all z (inr among))
    where
      by_place : Among z (y ∷ ys) → Among z ys
      by_place (inl here) =
          let itself : R x x = subst (R x) (sym here ∙ sym is) (first_before R x xs first z among) in
          absurd (never_both x x itself itself)
      by_place (inr later) = later

  same_lists : (xs ys : List X) → AllPairs R xs → AllPairs R ys → Same xs ys → xs ≡ ys
  same_lists [] [] first second same = refl
  same_lists [] (y ∷ ys) first second same = absurd ((same y).1 (inl refl))
  same_lists (x ∷ xs) [] first second same = absurd ((same x).0 (inl refl))
  same_lists (x ∷ xs) (y ∷ ys) first second same =
      let is = one_first x y xs ys first second same in
      let rest = same_lists xs ys (pairs_tail R x xs first) (pairs_tail R y ys second)
      (λ z. (behind_first x y xs ys first is (λ w. (same w).0) z, behind_first y x ys xs second (sym is) (λ w. (same w).1) z)) in
      ap (λ z. z ∷ xs) is ∙ ap (λ zs. y ∷ zs) rest

  pub one_list : (xs ys : List X) → AllPairs R xs → AllPairs R ys → ((x : X) → Contains xs x ↔ Contains ys x) → xs ≡ ys
  one_list xs ys first second same = same_lists xs ys first second (λ z. (
    λ among. Among-from_Contains z ys ((same z).0 (Contains-from_Among z xs among)),
    λ among. Among-from_Contains z xs ((same z).1 (Contains-from_Among z ys among)),
  ))

pub candidates_apart : (a b : Candidate) → Before a b → Before b a → ⊥
candidates_apart a b one other = grind (arith, one, other)

pub one_list_of_candidates : (xs ys : List Candidate) → AllPairs Before xs → AllPairs Before ys → ((x : Candidate) → Contains xs x ↔ Contains ys x) → xs ≡ ys
one_list_of_candidates = one_list Before candidates_apart
