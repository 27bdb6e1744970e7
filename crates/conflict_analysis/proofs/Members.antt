-- Elements of lists.
use Rattle.std.proofs.Common.{◌≡◌, List, [], ◌∷◌, refl, ⊎_elim, arith, ◌⊎◌, Contains, map}
use Rattle.list_laws.proofs.Members.{Contains-cons}

pub here : {X : Type 0} (x : X) (xs : List X) → Contains (x ∷ xs) x
here x xs = (0, omega arith, refl)

pub cons_cases : {X : Type 0} (y : X) (xs : List X) (x : X) → Contains (y ∷ xs) x → (y ≡ x) ⊎ Contains xs x
cons_cases y xs x c = grind arith

pub only : {X : Type 0} (x o : X) → Contains (x ∷ []) o → x ≡ o
only x o c = grind (arith, cons_cases)

pub from_map : {X Y : Type 0} (f : X → Y) (xs : List X) (y : Y) → Contains (map f xs) y → (x : X) × Contains xs x × (f x ≡ y)
from_map f [] y c = absurd (omega (arith, c.1))
from_map f (x ∷ xs) y c =
    ⊎_elim (λ e. (x, here x xs, e)) (λ d. let r = from_map f xs y d in (r.0, Contains-cons x xs r.0 r.1, r.2))
    (cons_cases (f x) (map f xs) y c)

-- a list that contains nothing
pub nil_by : {X : Type 0} (xs : List X) → ((x : X) → Contains xs x → ⊥) → xs ≡ []
nil_by [] h = refl
nil_by (x ∷ xs) h = absurd (h x (0, omega arith, refl))
