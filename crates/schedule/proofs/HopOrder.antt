-- Sends in ascending order: the order is total, and a list of different sends has one ascending order.
use Rattle.std.proofs.{Common.{◌≡◌, ℕ, Bool, true, false, ◌&&◌, ◌||◌, eqb, ltb, List, [], ◌∷◌, inl, inr, arith, ◌≢◌}, lemmas.{Bool.{Decides.nat_tests, cases_Bool}, List.Elements.{All-from_recursion, recursion_from_All}}}
use Rattle.std.{proofs.lemmas.List.Sorted.{All-permutation, Contains-permutation, IsPermutation-cons, IsPermutation-middle, IsPermutation-refl, IsPermutation-sym, IsPermutation-trans}, specs.List.{AllByRecursion, Sorted.IsPermutation}}
use Rattle.schedule.{specs.{declared.hop.Hop.Hop, Sends.hop_before, Inverse.{with_hop, in_order}}, proofs.{First.{Among, Among-from_Contains, Contains-from_Among, InOrder, each_weaker}, Verdicts.sends_one_way}}

-- where neither of two comes first by a number, the number is the same, and what follows decides
untied : (a b : ℕ) (there back : Bool) → (ltb a b || (eqb a b && there)) ≡ false → (ltb b a || (eqb b a && back)) ≡ false → (a ≡ b) × (there ≡ false) × (back ≡ false)
untied a b there back first second = grind (arith, nat_tests)

-- sends of the same numbers are the same
pub same_hop : (a b : Hop) → a.chunk ≡ b.chunk → a.from ≡ b.from → a.to ≡ b.to → a.step ≡ b.step → a ≡ b
same_hop a b chunks froms tos steps = λ i. record { chunk = chunks i; from = froms i; to = tos i; step = steps i }

pub neither_before : (a b : Hop) → hop_before a b ≡ false → hop_before b a ≡ false → a ≡ b
neither_before a b there back = grind (arith, untied, same_hop)

pub or_after : (a b : Hop) → a ≢ b → hop_before a b ≡ false → hop_before b a ≡ true
or_after a b apart fails = elim (cases_Bool (hop_before b a)) [ inl after ↦ after | inr neither ↦ absurd (apart (neither_before a b fails neither)) ]

-- two comparisons by a number first make a third
chained : (a b c : ℕ) (first second third : Bool) → (first ≡ true → second ≡ true → third ≡ true) → (ltb a b || (eqb a b && first)) ≡ true → (ltb b c || (eqb b c && second)) ≡ true → (ltb a c || (eqb a c && third)) ≡ true
chained a b c first second third both one two = grind (arith, nat_tests)

pub before_all : (a b c : Hop) → hop_before a b ≡ true → hop_before b c ≡ true → hop_before a c ≡ true
before_all a b c =
    chained a.step b.step c.step _ _ _ (chained a.chunk b.chunk c.chunk _ _ _ (chained a.from b.from c.from _ _ _ (λ less less_too. grind (arith, nat_tests, less, less_too))))

-- ---- a send put in its place

with_permutes : (h : Hop) (hops : List Hop) → IsPermutation (h ∷ hops) (with_hop h hops)
with_permutes h [] = IsPermutation-refl (h ∷ [])
with_permutes h (o ∷ hops) = grind (arith, IsPermutation-refl (h ∷ o ∷ hops), IsPermutation-trans (h ∷ o ∷ hops) (o ∷ h ∷ hops) (o ∷ with_hop h hops) (IsPermutation-sym (o ∷ h ∷ hops) (h ∷ o ∷ hops) (IsPermutation-middle (o ∷ []) h hops)) (IsPermutation-cons o (h ∷ hops) (with_hop h hops) (with_permutes h hops)))

each_permuted : (P : Hop → Type 0) (xs ys : List Hop) → IsPermutation xs ys → AllByRecursion P xs → AllByRecursion P ys
each_permuted P xs ys same each = recursion_from_All P ys (All-permutation P xs ys same (All-from_recursion P xs each))

pub ascends_with : (h : Hop) (hops : List Hop) → InOrder hop_before hops → AllByRecursion (λ o. h ≢ o) hops → InOrder hop_before (with_hop h hops)
ascends_with h [] order apart = (tt, tt)
ascends_with h (o ∷ hops) order apart =
    elim (cases_Bool (hop_before h o)) [
      | inl first ↦ rw first ((first, each_weaker (λ y. hop_before o y ≡ true) (λ y. hop_before h y ≡ true) (λ y after. before_all h o y first after) hops order.0), order)
      | inr later ↦ rw later (each_permuted (λ y. hop_before o y ≡ true) (h ∷ hops) (with_hop h hops) (with_permutes h hops) (or_after h o apart.0 later, order.0), ascends_with h hops order.1 apart.1)
    ]

-- ---- sends put in order

-- each differs from all later ones
abbrev pub Apart : List Hop → Type 0
Apart [] = Unit {0}
Apart (h ∷ hops) = AllByRecursion (λ o. h ≢ o) hops × Apart hops

pub in_order_permutes : (hops : List Hop) → IsPermutation hops (in_order hops)
in_order_permutes [] = IsPermutation-refl []
in_order_permutes (h ∷ hops) =
    IsPermutation-trans (h ∷ hops) (h ∷ in_order hops) (in_order (h ∷ hops)) (IsPermutation-cons h hops (in_order hops) (in_order_permutes hops)) (with_permutes h (in_order hops))

pub each_in_order : (P : Hop → Type 0) (hops : List Hop) → AllByRecursion P hops → AllByRecursion P (in_order hops)
each_in_order P hops each = each_permuted P hops (in_order hops) (in_order_permutes hops) each

pub ascends : (hops : List Hop) → Apart hops → InOrder hop_before (in_order hops)
ascends [] apart = tt
ascends (h ∷ hops) apart = ascends_with h (in_order hops) (ascends hops apart.1) (each_in_order (λ o. h ≢ o) hops apart.0)

pub among_in_order : (x : Hop) (hops : List Hop) → Among x hops → Among x (in_order hops)
among_in_order x hops among = Among-from_Contains x (in_order hops) (Contains-permutation hops (in_order hops) x (in_order_permutes hops) (Contains-from_Among x hops among))

pub in_order_among : (x : Hop) (hops : List Hop) → Among x (in_order hops) → Among x hops
in_order_among x hops among =
    Among-from_Contains x hops (Contains-permutation (in_order hops) hops x (IsPermutation-sym hops (in_order hops) (in_order_permutes hops)) (Contains-from_Among x (in_order hops) among))

-- ascending sends differ
pub ascending_apart : (hops : List Hop) → InOrder hop_before hops → Apart hops
ascending_apart [] order = tt
ascending_apart (h ∷ hops) order = grind (arith, each_weaker, sends_one_way, ascending_apart hops order.1)
