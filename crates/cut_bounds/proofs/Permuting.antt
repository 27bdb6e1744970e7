-- What is made of each element of a list is made of each of its permutation.
use Rattle.std.proofs.{Common.{◌≡◌, ℕ, zero, suc, ◌<◌, Bool, true, false, cond, List, [], ◌∷◌, ◌++◌, length, get_or, set, refl, subst, ⊎_elim, arith, Option, None, Some, filter}, lemmas.{Bool.cases_Bool, List.{append_assoc, Edits.swap_is}}}
use Rattle.std.proofs.lemmas.{List.Sorted.{IsPermutation-append_comm, IsPermutation-append_left, IsPermutation-append_right, IsPermutation-keeps, IsPermutation-refl, IsPermutation-trans}, Bool.Decides.nat_tests}
use Rattle.std.specs.List.{filter_map, flat_map, swap, Sorted.IsPermutation}

module _ {X Y : Type 0} (g : X → List Y) where
  -- the first two of three parts change places
  first_two : (xs ys zs : List Y) → IsPermutation (xs ++ (ys ++ zs)) (ys ++ (xs ++ zs))
  first_two xs ys zs =
      subst (λ l. IsPermutation l (ys ++ (xs ++ zs))) (append_assoc xs ys zs)
      (subst (λ l. IsPermutation ((xs ++ ys) ++ zs) l) (append_assoc ys xs zs)
      (IsPermutation-append_left zs (xs ++ ys) (ys ++ xs) (IsPermutation-append_comm xs ys)))

  -- an element in front changes places with one of the list
  replaced : (xs : List X) (j : ℕ) (x d : X) → j < length xs → IsPermutation (g x ++ flat_map g xs) (g (get_or xs j d) ++ flat_map g (set xs j x))
  replaced [] j x d below = absurd (omega (arith, below))
  replaced (y ∷ ys) zero x d below = first_two (g x) (g y) (flat_map g ys)
  replaced (y ∷ ys) (suc j) x d below =
      let at : X = get_or ys j d in
      let rest : List Y = flat_map g (set ys j x) in
      IsPermutation-trans (g x ++ (g y ++ flat_map g ys)) (g y ++ (g x ++ flat_map g ys)) (g at ++ (g y ++ rest)) (first_two (g x) (g y) (flat_map g ys))
      (IsPermutation-trans (g y ++ (g x ++ flat_map g ys)) (g y ++ (g at ++ rest)) (g at ++ (g y ++ rest))
      (IsPermutation-append_right (g y) (g x ++ flat_map g ys) (g at ++ rest) (replaced ys j x d (omega (arith, below))))
      (first_two (g y) (g at) rest))

  exchanged : (xs : List X) (i j : ℕ) (d : X) → i < length xs → j < length xs → IsPermutation (flat_map g xs) (flat_map g (set (set xs i (get_or xs j d)) j (get_or xs i d)))
  exchanged [] i j d first second = absurd (omega (arith, first))
  exchanged (x ∷ xs) zero zero d first second = IsPermutation-refl (flat_map g (x ∷ xs))
  exchanged (x ∷ xs) zero (suc j) d first second = replaced xs j x d (omega (arith, second))
  exchanged (x ∷ xs) (suc i) zero d first second = replaced xs i x d (omega (arith, first))
  exchanged (x ∷ xs) (suc i) (suc j) d first second = grind (arith, nat_tests, IsPermutation-append_right, exchanged xs i j d)

  swapped : (xs : List X) (i j : ℕ) → i < length xs → j < length xs → IsPermutation (flat_map g xs) (flat_map g (swap xs i j))
  swapped [] i j first second = absurd (omega (arith, first))
  swapped (x ∷ xs) i j first second =
      subst (λ l. IsPermutation (flat_map g (x ∷ xs)) (flat_map g l)) (swap_is (x ∷ xs) i j x first second) (exchanged (x ∷ xs) i j x first second)

  pub IsPermutation-flat_map : (xs ys : List X) → IsPermutation xs ys → IsPermutation (flat_map g xs) (flat_map g ys)
  IsPermutation-flat_map xs ys moved =
      IsPermutation-keeps xs (λ l. IsPermutation (flat_map g xs) (flat_map g l)) (IsPermutation-refl (flat_map g xs))
      (λ l i j first second so_far. IsPermutation-trans (flat_map g xs) (flat_map g l) (flat_map g (swap l i j)) so_far (swapped l i j first second)) ys moved

-- ---- filters

abbrev one : {X : Type 0} → Option X → List X
one None = []
one (Some x) = x ∷ []

filter_map-is : {X Y : Type 0} (h : X → Option Y) (xs : List X) → filter_map h xs ≡ flat_map (λ x. one (h x)) xs
filter_map-is h [] = refl
filter_map-is {X} {Y} h (x ∷ xs) = grind (arith, nat_tests, filter_map-is h xs)

filter-is : {X : Type 0} (p : X → Bool) (xs : List X) → filter p xs ≡ flat_map (λ x. cond (p x) (x ∷ []) []) xs
filter-is p [] = refl
filter-is p (x ∷ xs) =
    let rest = filter-is p xs in
    ⊎_elim
    (λ (kept : p x ≡ true). rw (kept, rest) refl)
    (λ (left : p x ≡ false). rw (left, rest) refl)
    (cases_Bool (p x))

pub IsPermutation-filter_map : {X Y : Type 0} (h : X → Option Y) (xs ys : List X) → IsPermutation xs ys → IsPermutation (filter_map h xs) (filter_map h ys)
IsPermutation-filter_map h xs ys moved = grind (arith, nat_tests, filter_map-is, IsPermutation-flat_map)

pub IsPermutation-filter : {X : Type 0} (p : X → Bool) (xs ys : List X) → IsPermutation xs ys → IsPermutation (filter p xs) (filter p ys)
IsPermutation-filter p xs ys moved = grind (arith, nat_tests, filter-is, IsPermutation-flat_map)
