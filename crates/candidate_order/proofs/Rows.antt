-- Pairs of a product: each once, and which they are.
use Rattle.std.proofs.{Common.{◌≡◌, ℕ, zero, suc, ◌+◌, ◌-◌, ◌<◌, ◌≤◌, Bool, false, ◌&&◌, eqb, List, [], ◌∷◌, ◌++◌, map, ◌∙◌, arith}, lemmas.{Map.Keys.IsDistinct-from_apart, Bool.{ne_eqb, and_left, and_right}}}
use Rattle.std.proofs.lemmas.List.{Elements.{Contains-append_left, Contains-append_right}, Kept.AllPairs-from_increasing, FromFn.{length-range_with_len, get_or-range_with_len}}
use Rattle.std.specs.List.{AllByRecursion, IsDistinct, Contains, range_with_len, Sorted.IsStrictlyIncreasing}
use Rattle.list_laws.proofs.{Each.{each_map, every_map}, Members.Contains-map}
use Rattle.itertools.specs.Product.{rows}
use Rattle.schedule.proofs.First.{each_append}

distinct_append : {X : Type 0} (e : X → X → Bool) (xs ys : List X) → IsDistinct e xs → IsDistinct e ys → AllByRecursion (λ x. AllByRecursion (λ y. e x y ≡ false) ys) xs → IsDistinct e (xs ++ ys)
unfolding IsDistinct
distinct_append e [] ys a b apart = b
distinct_append e (x ∷ xs) ys a b apart =
    (each_append (λ y. e x y ≡ false) xs ys a.0 apart.0, distinct_append e xs ys a.1 b apart.1)

-- a map that keeps what differs apart
pub IsDistinct-map : {X Y : Type 0} (d : X → X → Bool) (e : Y → Y → Bool) (f : X → Y) → ((x y : X) → d x y ≡ false → e (f x) (f y) ≡ false) → (xs : List X) → IsDistinct d xs → IsDistinct e (map f xs)
unfolding IsDistinct
IsDistinct-map d e f keeps [] a = tt
IsDistinct-map d e f keeps (x ∷ xs) a =
    (each_map (λ y. d x y ≡ false) (λ y. e (f x) y ≡ false) f (λ y. keeps x y) xs a.0, IsDistinct-map d e f keeps xs a.1)

abbrev pub same_pair : ℕ × ℕ → ℕ × ℕ → Bool
same_pair p q = eqb p.0 q.0 && eqb p.1 q.1

-- a row that differs in its left item has no pair in common
rows_apart : (x y : ℕ) (xs ys : List ℕ) → AllByRecursion (λ z. eqb x z ≡ false) xs → AllByRecursion (λ p. same_pair (x, y) p ≡ false) (rows xs ys)
rows_apart x y [] ys a = tt
rows_apart x y (z ∷ xs) ys a =
    let apart : ℕ × ℕ → Type 0 = λ p. same_pair (x, y) p ≡ false in
    each_append apart (map (λ w. (z, w)) ys) (rows xs ys) (every_map apart (λ w. (z, w)) (λ w. and_left _ _ a.0) ys) (rows_apart x y xs ys a.1)

-- no pair comes twice
pub IsDistinct-rows : (xs ys : List ℕ) → IsDistinct eqb xs → IsDistinct eqb ys → IsDistinct same_pair (rows xs ys)
unfolding IsDistinct
IsDistinct-rows [] ys a b = tt
IsDistinct-rows (x ∷ xs) ys a b =
    distinct_append same_pair (map (λ y. (x, y)) ys) (rows xs ys) (IsDistinct-map eqb same_pair (λ y. (x, y)) (λ y z differ. and_right _ _ differ) ys b) (IsDistinct-rows xs ys a.1 b) (every_map (λ p. AllByRecursion (λ q. same_pair p q ≡ false) (rows xs ys)) (λ y. (x, y)) (λ y. rows_apart x y xs ys a.0) ys)

pub IsDistinct-range : (a n : ℕ) → IsDistinct eqb (range_with_len a n)
IsDistinct-range a n = grind (arith, IsDistinct-from_apart, length-range_with_len, ne_eqb, get_or-range_with_len)

pub IsDistinct-increasing : (xs : List ℕ) → IsStrictlyIncreasing xs → IsDistinct eqb xs
IsDistinct-increasing xs up =
    IsDistinct-from_apart eqb xs (λ i j d before within. ne_eqb _ _ (λ same. omega (arith, same, AllPairs-from_increasing xs up i j d before within)))

-- each item of the one side is with each item of the other
pub Contains-rows : {X Y : Type 0} (xs : List X) (ys : List Y) (x : X) (y : Y) → Contains xs x → Contains ys y → Contains (rows xs ys) (x, y)
Contains-rows [] ys x y (k, below, at) other = absurd (omega arith)
Contains-rows (z ∷ xs) ys x y (zero, below, at) other =
    Contains-append_left (map (λ w. (z, w)) ys) (rows xs ys) (x, y) (rw at (Contains-map (λ w. (x, w)) ys y other))
Contains-rows (z ∷ xs) ys x y (suc k, below, at) other =
    Contains-append_right (map (λ w. (z, w)) ys) (rows xs ys) (x, y) (Contains-rows xs ys x y (k, omega arith, at) other)

pub Contains-range : (a n x : ℕ) → a ≤ x → x < a + n → Contains (range_with_len a n) x
Contains-range a n x low high =
    (x - a, omega (arith, length-range_with_len a n), get_or-range_with_len a n (x - a) x (omega arith) ∙ omega arith)
