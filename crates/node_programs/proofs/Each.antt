-- A list with an entry for each of the first so many numbers, one of them changed.
use Rattle.std.proofs.Common.{◌≡◌, ℕ, ◌<◌, false, eqb, List, [], ◌∷◌, ◌++◌, length, map, get_or, set, ⊎_elim, sym, ap, ◌∙◌, arith, get_or-set_same, get_or-set_other}
use Rattle.std.{specs.List.{AllByRecursion, range_with_len}, proofs.lemmas.List.{length-set, FromFn.{fill_by_all, get_or-map-range_with_len, length-map-range_with_len}}}
use Rattle.bag_runs.proofs.Cells.{differ, same_or_not}

-- what holds of each element of two lists holds of each of the first
pub each_front : {X : Type 0} (P : X → Type 0) (xs ys : List X) → AllByRecursion P (xs ++ ys) → AllByRecursion P xs
each_front P [] ys each = tt
each_front P (x ∷ xs) ys each = (each.0, each_front P xs ys each.1)

pub flipped : (a b : ℕ) → eqb a b ≡ false → eqb b a ≡ false
flipped a b apart = grind (arith, ⊎_elim, differ, same_or_not)

module _ {X : Type 0} (n v : ℕ) (f g : ℕ → X) (d : X) (other : (k : ℕ) → eqb k v ≡ false → f k ≡ g k) where
  at_other : (k : ℕ) → k < n → eqb k v ≡ false → get_or (map f (range_with_len 0 n)) k d ≡ g k
  at_other k low apart = get_or-map-range_with_len f 0 n k k d low (omega arith) ∙ other k apart

  -- the entry of a number changed
  pub set_each : (x : X) → (v < n → x ≡ g v) → set (map f (range_with_len 0 n)) v x ≡ map g (range_with_len 0 n)
  set_each x here = fill_by_all g (set (map f (range_with_len 0 n)) v x) n d (length-set (map f (range_with_len 0 n)) v x ∙ length-map-range_with_len f 0 n) at
    where
      at : (k : ℕ) → k < n → get_or (set (map f (range_with_len 0 n)) v x) k d ≡ g k
      at k low =
          ⊎_elim
          (λ (same : k ≡ v).
          let inside : v < n = omega arith in
          let within : v < length (map f (range_with_len 0 n)) = omega (arith, inside, length-map-range_with_len f 0 n) in
          ap (λ i. get_or (set (map f (range_with_len 0 n)) v x) i d) same ∙ get_or-set_same (map f (range_with_len 0 n)) v x d within ∙ here inside ∙ ap g (sym same))
          (λ (apart : eqb k v ≡ false). get_or-set_other (map f (range_with_len 0 n)) v k x d (differ k v apart) ∙ at_other k low apart)
          (same_or_not k v)
