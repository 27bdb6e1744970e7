-- What holds of each element and each later one.
use Rattle.std.{proofs.Common.{suc, List, [], ◌∷◌, arith}, specs.List.{All, AllPairs}}

pub no_pairs : {X : Type 0} (R : X → X → Type 0) → AllPairs R []
no_pairs R = λ i j d low few. absurd (omega (arith, few))

pub pairs_head : {X : Type 0} (R : X → X → Type 0) (x : X) (xs : List X) → AllPairs R (x ∷ xs) → All (R x) xs
pairs_head R x xs p = λ k d low. p 0 (suc k) d (omega arith) (omega (arith, low))

pub pairs_tail : {X : Type 0} (R : X → X → Type 0) (x : X) (xs : List X) → AllPairs R (x ∷ xs) → AllPairs R xs
pairs_tail R x xs pairs = λ i j d low few. pairs (suc i) (suc j) d (omega (arith, low)) (omega (arith, few))
