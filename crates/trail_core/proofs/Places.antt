-- What holds at each place of a list, after one element was written.
use Rattle.std.proofs.{Common.{◌≢◌, ℕ, ◌<◌, List, length, get_or, set, arith}, lemmas.{Bool.cases_eq, List.{get_or-set_same, get_or-set_other}}}

pub at_set : {X : Type 0} (P : ℕ → X → Type 0) (xs : List X) (k : ℕ) (y d : X) → k < length xs → ((i : ℕ) → i ≢ k → P i (get_or xs i d)) → P k y → (i : ℕ) → P i (get_or (set xs k y) i d)
at_set P xs k y d w other here i = grind (arith, other i, get_or-set_same, get_or-set_other, cases_eq i k)
