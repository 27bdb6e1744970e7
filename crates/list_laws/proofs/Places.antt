-- What holds of each element by its place.
use Rattle.std.proofs.{Common.{◌≡◌, ℕ, ◌<◌, List, [], ◌∷◌, ◌++◌, length, get_or, sym, subst, ⊎_elim, arith}, lemmas.{Bool.cases_lt, List.{get_or_append_left, get_or_push, length_push}}}

-- it holds with one element more at the end
pub by_place_push : {X : Type 0} (P : ℕ → X → Type 0) (xs : List X) (x d : X) → ((k : ℕ) → k < length xs → P k (get_or xs k d)) → P (length xs) x → (k : ℕ) → k < length (xs ++ x ∷ []) → P k (get_or (xs ++ x ∷ []) k d)
by_place_push P xs x d old new k w =
    let n = length_push xs x in
    ⊎_elim (λ u. subst (P k) (sym (get_or_append_left xs (x ∷ []) d k u)) (old k u))
    (λ u.
    let at : length xs ≡ k = omega (arith, u, w, n) in
    subst (P k) (sym (get_or_push xs x d k at)) (subst (λ j. P j x) at new))
    (cases_lt k (length xs))
