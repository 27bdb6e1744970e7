-- What holds of each element of a list that is made of others.
use Rattle.std.proofs.{Common.{◌≡◌, ℕ, zero, suc, ◌+◌, ◌*◌, ◌<◌, ◌≤◌, Bool, true, List, [], ◌∷◌, length, length-append, map, arith, flat_map, All}, lemmas.{Bool.Decides.nat_tests, List.Sums.{fails_before_first, passes_at_first}}}
use Rattle.std.proofs.lemmas.List.{Folds.{list_any_at, list_any_none}, FromFn.{length-range_with_len, get_or-range_with_len}, Elements.{All-nil, All-cons, All-head, All-tail, All-append, All-map, All-weaker, All-from_recursion}}
use Rattle.std.{proofs.Math.Nat.mul-le-mul_right, specs.List.{list_any, range_with_len, enumerate_from, position_or_len, AllByRecursion}}

pub by_recursion : {X : Type 0} (P : X → Type 0) (xs : List X) → AllByRecursion P xs → All P xs
by_recursion P xs a = All-from_recursion P xs a

pub in_map : {X A : Type 0} (P : A → Type 0) (Q : X → Type 0) (f : X → A) (xs : List X) → ((x : X) → Q x → P (f x)) → All Q xs → All P (map f xs)
in_map P Q f xs h a = All-map P f xs (All-weaker Q (λ x. P (f x)) h xs a)

pub in_flat : {X A : Type 0} (P : A → Type 0) (Q : X → Type 0) (f : X → List A) (xs : List X) → ((x : X) → Q x → All P (f x)) → All Q xs → All P (flat_map f xs)
in_flat P Q f [] h a = All-nil P
in_flat P Q f (x ∷ xs) h a = All-append P (f x) (flat_map f xs) (h x (All-head Q x xs a)) (in_flat P Q f xs h (All-tail Q x xs a))

-- a number of a range
abbrev pub From : ℕ → ℕ → ℕ → Type 0
From a n j = (a ≤ j) × (j < a + n)

pub in_range : (a n : ℕ) → All (From a n) (range_with_len a n)
in_range a n = grind (arith, length-range_with_len, get_or-range_with_len)

-- a number of a list's element, and the element
abbrev pub Numbered : {X : Type 0} → (X → Type 0) → ℕ → ℕ × X → Type 0
Numbered Q n entry = (entry.0 < n) × Q entry.1

pub in_numbers : {X : Type 0} (Q : X → Type 0) (xs : List X) (k n : ℕ) → k + length xs ≤ n → All Q xs → All (Numbered Q n) (enumerate_from k xs)
in_numbers Q [] k n high a = All-nil (Numbered Q n)
in_numbers Q (x ∷ xs) k n high a = All-cons (Numbered Q n) (k, x) (enumerate_from (k + 1) xs) (omega (arith, high), All-head Q x xs a) (in_numbers Q xs (k + 1) n (omega (arith, high)) (All-tail Q x xs a))

-- a list of ranges is not empty
pub some_in_flat : {A : Type 0} (f : ℕ → List A) (a n : ℕ) → 0 < n → ((j : ℕ) → 0 < length (f j)) → 0 < length (flat_map f (range_with_len a n))
some_in_flat f a zero h some = absurd (omega (arith, h))
some_in_flat f a (suc n) h some = omega (arith, some a, length-append (f a) (flat_map f (range_with_len (a + 1) n)))

-- an element that passes has its place
pub place_below : {X : Type 0} (p : X → Bool) (xs : List X) → list_any p xs ≡ true → position_or_len p xs < length xs
place_below p xs e = grind (arith, nat_tests, fails_before_first, list_any_none)

pub below_listed : {X : Type 0} (p : X → Bool) (xs : List X) → position_or_len p xs < length xs → list_any p xs ≡ true
below_listed p [] low = absurd (omega (arith, low))
below_listed p (x ∷ xs) low = list_any_at p (x ∷ xs) (position_or_len p (x ∷ xs)) x low (passes_at_first p (x ∷ xs) x low)

-- the b-th of B places in the a-th of A rows is one of all places
pub slot : (a b rows places : ℕ) → a < rows → b < places → a * places + b < rows * places
slot a b rows places low few = grind (arith, mul-le-mul_right)
