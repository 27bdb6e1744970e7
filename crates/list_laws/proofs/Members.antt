-- What a list contains.
use Rattle.std.proofs.{Common.{◌≡◌, zero, suc, Bool, true, cond, List, [], ◌∷◌, map, sym, ap, ◌∙◌, subst, arith, Contains, filter}, lemmas.{Bool.cond_both, List.Elements.Contains-append_right}}

pub Contains-cons : {X : Type 0} (x : X) (xs : List X) (y : X) → Contains xs y → Contains (x ∷ xs) y
Contains-cons x xs y h = Contains-append_right (x ∷ []) xs y h

pub Contains-map : {X Y : Type 0} (f : X → Y) (xs : List X) (x : X) → Contains xs x → Contains (map f xs) (f x)
Contains-map f [] x (k, below, at) = absurd (omega arith)
Contains-map f (y ∷ xs) x (zero, below, at) = (0, omega arith, ap f at)
Contains-map f (y ∷ xs) x (suc k, below, at) =
    let rest = Contains-map f xs x (k, omega arith, at) in
    (suc rest.0, omega arith, rest.2)

pub Contains-filter : {X : Type 0} (p : X → Bool) (xs : List X) (x : X) → p x ≡ true → Contains xs x → Contains (filter p xs) x
Contains-filter p [] x holds h = absurd (omega (arith, h.1))
Contains-filter p (y ∷ xs) x holds (zero, below, at) =
    subst (λ b. Contains (cond b (y ∷ filter p xs) (filter p xs)) x) (sym (ap p at ∙ holds)) (0, omega arith, at)
Contains-filter p (y ∷ xs) x holds (suc k, below, at) =
    let rest = Contains-filter p xs x holds (k, omega arith, at) in
    cond_both (p y) (y ∷ filter p xs) (filter p xs) (λ l. Contains l x) (λ _. (suc rest.0, omega (arith, rest.1), rest.2)) (λ _. rest)
