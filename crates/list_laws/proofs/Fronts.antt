-- A list seen through a function, and the front of a list.
use Rattle.std.proofs.{Common.{◌≡◌, ℕ, ◌+◌, ◌<◌, List, [], ◌∷◌, ◌++◌, map, length, get_or, set, take, refl, sym, ap, ◌∙◌, arith}, lemmas.List.{map-set, get_or-map, set-get_or, length_push, take_at, take-take}}

pub at_map : {X Y : Type 0} (f : X → Y) (xs : List X) (k : ℕ) (x : X) (e : Y) → k < length xs → x ≡ get_or xs k x → get_or (map f xs) k e ≡ f x
at_map f xs k x e w r = get_or-map f xs k x e w ∙ ap f (sym r)

pub same_map : {X Y : Type 0} (f : X → Y) (xs : List X) (k : ℕ) (x y : X) → k < length xs → x ≡ get_or xs k x → f y ≡ f x → map f (set xs k y) ≡ map f xs
same_map f xs k x y w r e =
    map-set f xs k y ∙ ap (set (map f xs) k) (e ∙ sym (at_map f xs k x (f x) w r)) ∙ set-get_or (map f xs) k (f x)

-- one element fewer at the front of a list
pub shorter : {X : Type 0} (front less whole : List X) (x : X) → front ≡ less ++ x ∷ [] → front ≡ take (length front) whole → less ≡ take (length less) whole
shorter front less whole x more is =
    let size : length front ≡ length less + 1 = ap length more ∙ length_push less x in
    let own : take (length less) front ≡ less = ap (take (length less)) more ∙ take_at less (x ∷ []) (length less) refl in
    sym own ∙ ap (take (length less)) is ∙ take-take (length less) (length front) whole (omega (arith, size))
