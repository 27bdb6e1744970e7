-- How long lists are at most that are put together from others.
use Rattle.std.proofs.Common.{ℕ, ◌*◌, ◌≤◌, List, [], ◌∷◌, length, arith, length-append, flat_map}

pub flat_length : {X Y : Type 0} (g : X → List Y) (most : ℕ) (xs : List X) → ((x : X) → length (g x) ≤ most) → length (flat_map g xs) ≤ length xs * most
flat_length g most [] few = omega arith
flat_length g most (x ∷ xs) few = omega (arith, length-append (g x) (flat_map g xs), few x, flat_length g most xs few)
