-- Lists made of others whose elements stand in an order.
use Rattle.std.proofs.{Common.{◌≡◌, ℕ, ◌+◌, ◌<◌, ◌≤◌, Bool, true, cond, List, [], ◌∷◌, ◌++◌, map, length, get_or, ap, ◌∙◌, ⊎_elim, arith, flat_map, count_by, All, AllPairs}, lemmas.Bool.{cases_Bool, false_from_ne_true}}
use Rattle.std.{proofs.lemmas.List.{Kept.AllPairs-cons, Sums.sum_by-cons, Elements.{All-append, All-head, All-tail}, FromFn.{length-range_with_len, get_or-range_with_len}}, specs.List.{range_with_len, enumerate_from}}
use Rattle.list_laws.proofs.Pairs.{no_pairs, pairs_tail, pairs_head}
use Rattle.send_encoding.proofs.{Everywhere.{in_map, in_flat, in_numbers}, Members.none_of}

pub one_pairs : {X : Type 0} (R : X → X → Type 0) (x : X) → AllPairs R (x ∷ [])
one_pairs R x = λ i j d low few. absurd (omega (arith, low, few))

pub pairs_append : {X : Type 0} (R : X → X → Type 0) (xs ys : List X) → AllPairs R xs → AllPairs R ys → All (λ x. All (R x) ys) xs → AllPairs R (xs ++ ys)
pairs_append R [] ys a b c = b
pairs_append R (x ∷ xs) ys a b c =
    AllPairs-cons R x (xs ++ ys) (All-append (R x) xs ys (pairs_head R x xs a) (All-head (λ x. All (R x) ys) x xs c))
    (pairs_append R xs ys (pairs_tail R x xs a) b (All-tail (λ x. All (R x) ys) x xs c))

-- what is made of elements in order is in order, where each element's own is and it stands before what a later one gives
pub flat_pairs : {X A : Type 0} (S : X → X → Type 0) (R : A → A → Type 0) (P : X → A → Type 0) (g : X → List A) → ((x : X) → AllPairs R (g x)) → ((x : X) → All (P x) (g x))
    → ((x y : X) (a b : A) → S x y → P x a → P y b → R a b) → (xs : List X) → AllPairs S xs → AllPairs R (flat_map g xs)
flat_pairs S R P g own each across [] s = no_pairs R
flat_pairs S R P g own each across (x ∷ xs) s =
    pairs_append R (g x) (flat_map g xs) (own x) (flat_pairs S R P g own each across xs (pairs_tail S x xs s))
    (λ i d low. let a = get_or (g x) i d in let pa = each x i d low in
    in_flat (R a) (S x) g xs (λ y before. λ j e few. across x y a (get_or (g y) j e) before pa (each y j e few)) (pairs_head S x xs s))

pub map_pairs : {X A : Type 0} (S : X → X → Type 0) (R : A → A → Type 0) (f : X → A) → ((x y : X) → S x y → R (f x) (f y)) → (xs : List X) → AllPairs S xs → AllPairs R (map f xs)
map_pairs S R f h [] s = no_pairs R
map_pairs S R f h (x ∷ xs) s =
    AllPairs-cons R (f x) (map f xs) (in_map (R (f x)) (S x) f xs (h x) (pairs_head S x xs s)) (map_pairs S R f h xs (pairs_tail S x xs s))

pub range_pairs : (a n : ℕ) → AllPairs (λ i j. i < j) (range_with_len a n)
range_pairs a n = grind (arith, length-range_with_len, get_or-range_with_len)

pub numbered_pairs : {X : Type 0} (S : X → X → Type 0) (k : ℕ) (xs : List X) → AllPairs S xs → AllPairs (λ y z. S y.1 z.1) (enumerate_from k xs)
numbered_pairs S k [] s = no_pairs (λ y z. S y.1 z.1)
numbered_pairs S k (x ∷ xs) s =
    AllPairs-cons (λ y z. S y.1 z.1) (k, x) (enumerate_from (k + 1) xs)
    (λ i d low. (in_numbers (S x) xs (k + 1) (k + 1 + length xs) (omega arith) (pairs_head S x xs s) i d low).1)
    (numbered_pairs S (k + 1) xs (pairs_tail S x xs s))

-- no two of an order pass the test, so it counts at most one
pub apart_once : {X : Type 0} (R : X → X → Type 0) (p : X → Bool) → ((x y : X) → R x y → p x ≡ true → p y ≡ true → ⊥) → (xs : List X) → AllPairs R xs → count_by p xs ≤ 1
apart_once R p never [] s = omega arith
apart_once R p never (x ∷ xs) s =
    let cons = sum_by-cons (λ y. cond (p y) 1 0) x xs in
    let rest = apart_once R p never xs (pairs_tail R x xs s) in
    ⊎_elim (λ t.
    let none : count_by p xs ≡ 0 = none_of p xs (λ k d low. false_from_ne_true (p (get_or xs k d)) (λ u. never x (get_or xs k d) (pairs_head R x xs s k d low) t u)) in
    omega (arith, cons ∙ ap (λ b. cond b 1 0 + count_by p xs) t, none))
    (λ f. omega (arith, cons ∙ ap (λ b. cond b 1 0 + count_by p xs) f, rest))
    (cases_Bool (p x))
