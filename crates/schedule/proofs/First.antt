-- The first element of a list in order that passes a test.
use Rattle.std.proofs.{Common.{◌≡◌, ℕ, zero, suc, ◌+◌, ◌<◌, ◌≤◌, map, Bool, true, false, List, [], ◌∷◌, ◌++◌, Some, None, ◌⊎◌, inl, inr, refl, ap, subst, ◌∙◌, arith, count_by}, lemmas.Bool.{false≢true, or_left, or_right}}
use Rattle.std.{proofs.lemmas.List.Elements.{filter_passes, recursion_from_All}, specs.List.{find, filter, list_any, flat_map, range_with_len, AllPairs, AllByRecursion, Contains}}
use Rattle.list_laws.proofs.{Members.Contains-cons, Pairs.{pairs_head, pairs_tail}}

-- x is among the elements
abbrev pub Among : {X : Type 0} → X → List X → Type 0
Among x [] = ⊥
Among x (y ∷ ys) = (y ≡ x) ⊎ Among x ys

-- each element comes before those after it
abbrev pub InOrder : {X : Type 0} → (X → X → Bool) → List X → Type 0
InOrder before [] = Unit {0}
InOrder before (x ∷ xs) = AllByRecursion (λ y. before x y ≡ true) xs × InOrder before xs

-- no two elements come before each other
abbrev pub OneWay : {X : Type 0} → (X → X → Bool) → Type 0
OneWay {X} before = (a b : X) → before a b ≡ true → before b a ≡ true → ⊥

pub among_each : {X : Type 0} (P : X → Type 0) (x : X) (xs : List X) → AllByRecursion P xs → Among x xs → P x
among_each P x [] each among = absurd among
among_each P x (y ∷ ys) each (inl here) = subst P here each.0
among_each P x (y ∷ ys) each (inr later) = among_each P x ys each.1 later

pub each_among : {X : Type 0} (P : X → Type 0) (xs : List X) → ((x : X) → Among x xs → P x) → AllByRecursion P xs
each_among P [] each = tt
each_among P (x ∷ xs) each = (each x (inl refl), each_among P xs (λ y later. each y (inr later)))

pub each_weaker : {X : Type 0} (P Q : X → Type 0) → ((x : X) → P x → Q x) → (xs : List X) → AllByRecursion P xs → AllByRecursion Q xs
each_weaker P Q weaker [] each = tt
each_weaker P Q weaker (x ∷ xs) each = (weaker x each.0, each_weaker P Q weaker xs each.1)

pub each_append : {X : Type 0} (P : X → Type 0) (xs ys : List X) → AllByRecursion P xs → AllByRecursion P ys → AllByRecursion P (xs ++ ys)
each_append P [] ys front back = back
each_append P (x ∷ xs) ys front back = (front.0, each_append P xs ys front.1 back)

pub each_passes : {X : Type 0} (p : X → Bool) (xs : List X) → AllByRecursion (λ x. p x ≡ true) (filter p xs)
each_passes p xs = recursion_from_All (λ x. p x ≡ true) (filter p xs) (filter_passes p xs)

-- one that passes settles the test of a list
pub any_among : {X : Type 0} (p : X → Bool) (x : X) (xs : List X) → Among x xs → p x ≡ true → list_any p xs ≡ true
any_among p x [] among passes = absurd among
any_among p x (y ∷ ys) (inl here) passes = or_left (p y) (list_any p ys) (ap p here ∙ passes)
any_among p x (y ∷ ys) (inr later) passes = or_right (p y) (list_any p ys) (any_among p x ys later passes)

-- what passes a test of a list
pub any_found : {X : Type 0} (p : X → Bool) (xs : List X) → list_any p xs ≡ true → (x : X) × Among x xs × (p x ≡ true)
any_found p [] some = absurd (false≢true some)
any_found p (x ∷ xs) some = grind (arith, any_found p xs)

-- where some pass, one does
pub some_passes : {X : Type 0} (p : X → Bool) (xs : List X) → 0 < count_by p xs → (x : X) × Among x xs × (p x ≡ true)
some_passes p [] some = absurd (omega arith)
some_passes p (x ∷ xs) some = grind (arith, some_passes p xs)

-- what a filter keeps
pub among_kept : {X : Type 0} (test : X → Bool) (x : X) (xs : List X) → Among x xs → test x ≡ true → Among x (filter test xs)
among_kept test x [] among passes = absurd among
among_kept test x (y ∷ ys) (inl here) passes = rw (ap test here ∙ passes) (inl here)
among_kept test x (y ∷ ys) (inr later) passes = grind (arith, among_kept test x ys later passes)

pub filter_among : {X : Type 0} (test : X → Bool) (x : X) (xs : List X) → Among x (filter test xs) → Among x xs × (test x ≡ true)
filter_among test x [] among = absurd among
filter_among {X} test x (y ∷ ys) among = grind (arith, filter_among test x ys)

pub Contains-from_Among : {X : Type 0} (x : X) (xs : List X) → Among x xs → Contains xs x
Contains-from_Among x [] among = absurd among
Contains-from_Among x (y ∷ ys) (inl here) = (0, omega arith, here)
Contains-from_Among x (y ∷ ys) (inr later) = Contains-cons y ys x (Contains-from_Among x ys later)

pub among_map : {X Y : Type 0} (f : X → Y) (x : X) (xs : List X) → Among x xs → Among (f x) (map f xs)
among_map f x [] among = absurd among
among_map f x (y ∷ ys) (inl here) = inl (ap f here)
among_map f x (y ∷ ys) (inr later) = inr (among_map f x ys later)

pub map_among : {X Y : Type 0} (f : X → Y) (y : Y) (xs : List X) → Among y (map f xs) → (x : X) × Among x xs × (f x ≡ y)
map_among f y [] among = absurd among
map_among f y (x ∷ xs) (inl here) = (x, inl refl, here)
map_among f y (x ∷ xs) (inr later) = let rest = map_among f y xs later in (rest.0, inr rest.1, rest.2)

pub among_left : {X : Type 0} (x : X) (xs ys : List X) → Among x xs → Among x (xs ++ ys)
among_left x [] ys among = absurd among
among_left x (y ∷ xs) ys (inl here) = inl here
among_left x (y ∷ xs) ys (inr later) = inr (among_left x xs ys later)

pub among_right : {X : Type 0} (x : X) (xs ys : List X) → Among x ys → Among x (xs ++ ys)
among_right x [] ys among = among
among_right x (y ∷ xs) ys among = inr (among_right x xs ys among)

-- what stands in the part of one of the numbers
pub among_parts : {Y : Type 0} (f : ℕ → List Y) (y : Y) (i a n : ℕ) → a ≤ i → i < a + n → Among y (f i) → Among y (flat_map f (range_with_len a n))
among_parts f y i a zero from to among = absurd (omega arith)
among_parts f y i a (suc n) from to among = grind (arith, among_left, among_right, among_parts f y i (a + 1) n)

pub Among-from_Contains : {X : Type 0} (x : X) (xs : List X) → Contains xs x → Among x xs
Among-from_Contains x [] (k, below, at) = absurd (omega arith)
Among-from_Contains x (y ∷ ys) (zero, below, at) = inl at
Among-from_Contains x (y ∷ ys) (suc k, below, at) = inr (Among-from_Contains x ys (k, omega arith, at))

pub InOrder-from_pairs : {X : Type 0} (before : X → X → Bool) (xs : List X) → AllPairs (λ a b. before a b ≡ true) xs → InOrder before xs
InOrder-from_pairs before [] pairs = tt
InOrder-from_pairs before (x ∷ xs) pairs =
    (recursion_from_All (λ y. before x y ≡ true) xs (pairs_head (λ a b. before a b ≡ true) x xs pairs), InOrder-from_pairs before xs (pairs_tail (λ a b. before a b ≡ true) x xs pairs))

pub each_filter : {X : Type 0} (P : X → Type 0) (p : X → Bool) (xs : List X) → AllByRecursion P xs → AllByRecursion P (filter p xs)
each_filter P p [] each = tt
each_filter P p (x ∷ xs) each = grind (arith, each_filter P p xs each.1)

pub InOrder-filter : {X : Type 0} (before : X → X → Bool) (p : X → Bool) (xs : List X) → InOrder before xs → InOrder before (filter p xs)
InOrder-filter before p [] order = tt
InOrder-filter before p (x ∷ xs) order = grind (arith, each_filter, InOrder-filter before p xs order.1)

pub InOrder-append : {X : Type 0} (before : X → X → Bool) (xs ys : List X) → InOrder before xs → InOrder before ys → AllByRecursion (λ x. AllByRecursion (λ y. before x y ≡ true) ys) xs → InOrder before (xs ++ ys)
InOrder-append before [] ys left right across = right
InOrder-append before (x ∷ xs) ys left right across = grind (arith, each_append, InOrder-append before xs ys left.1 right across.1)

-- the first that passes: it is among the elements, it passes, and none before it does
pub record IsFirst {X : Type 0} (before : X → X → Bool) (p : X → Bool) (xs : List X) (x : X) : Type 0 where
  pub among : Among x xs
  pub passes : p x ≡ true
  pub earlier : AllByRecursion (λ y. before y x ≡ true → p y ≡ false) xs

pub found_first : {X : Type 0} (before : X → X → Bool) (p : X → Bool) (xs : List X) (x : X) → OneWay before → InOrder before xs → find p xs ≡ Some x → IsFirst before p xs x
found_first before p [] x one_way order found = absurd cc
found_first {X} before p (y ∷ ys) x one_way order found = grind (arith, each_weaker, found_first before p ys x one_way order.1)

pub first_found : {X : Type 0} (before : X → X → Bool) (p : X → Bool) (xs : List X) (x : X) → InOrder before xs → IsFirst before p xs x → find p xs ≡ Some x
first_found before p [] x order first = absurd first.among
first_found before p (y ∷ ys) x order first = grind (arith, among_each, first_found before p ys x order.1)

pub found_none : {X : Type 0} (p : X → Bool) (xs : List X) → find p xs ≡ None → AllByRecursion (λ x. p x ≡ false) xs
found_none p [] none = tt
found_none p (x ∷ xs) none = grind (arith, found_none p xs)

pub none_found : {X : Type 0} (p : X → Bool) (xs : List X) → AllByRecursion (λ x. p x ≡ false) xs → find p xs ≡ None
none_found p [] fail = refl
none_found p (x ∷ xs) fail = rw fail.0 (none_found p xs fail.1)
