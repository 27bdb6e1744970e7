-- Of the sends of one chunk to one node, the first: what stands among them, in which order, and how many.
use Rattle.std.proofs.{Common.{◌≡◌, zero, suc, ◌≤◌, inl, inr, Bool, true, false, cond, List, [], ◌∷◌, refl, ap, ◌∙◌, arith, count_by, filter}, lemmas.{Bool.{cases_Bool, not-true, not-false}, List.Elements.All-from_recursion}}
use Rattle.std.{proofs.lemmas.List.Sums.sum_by-cons, specs.List.{AllByRecursion, AllPairs}}
use Rattle.schedule.{specs.{declared.hop.Hop.Hop, Placed.same_pair}, proofs.{First.{Among, InOrder, InOrder-filter, among_each, each_among, each_filter, among_kept, each_passes}, Placing.pair_is, Wasting.to_pair}}
use Rattle.inversion.specs.Reductions.{firsts, is_other}

-- ---- what stands in a list, and passes a test

pub counted_kept : {X : Type 0} (p q : X → Bool) (xs : List X) → count_by p (filter q xs) ≤ count_by p xs
counted_kept p q [] = omega arith
counted_kept p q (x ∷ xs) = grind (arith, counted_kept p q xs, sum_by-cons (λ y. cond (p y) 1 0) x xs, sum_by-cons (λ y. cond (p y) 1 0) x (filter q xs))

-- ---- the first sends

pub each_first : (P : Hop → Type 0) (hops : List Hop) → AllByRecursion P hops → AllByRecursion P (firsts hops)
each_first P [] each = tt
each_first P (h ∷ hops) each = (each.0, each_filter P (is_other h) (firsts hops) (each_first P hops each.1))

pub first_among : (h : Hop) (hops : List Hop) → Among h (firsts hops) → Among h hops
first_among h hops among =
    among_each (λ x. Among x hops) h (firsts hops) (each_first (λ x. Among x hops) hops (each_among (λ x. Among x hops) hops (λ x there. there))) among

pub ordered_firsts : (before : Hop → Hop → Bool) (hops : List Hop) → InOrder before hops → InOrder before (firsts hops)
ordered_firsts before [] order = tt
ordered_firsts before (h ∷ hops) order =
    (each_filter (λ y. before h y ≡ true) (is_other h) (firsts hops) (each_first (λ y. before h y ≡ true) hops order.0), InOrder-filter before (is_other h) (firsts hops) (ordered_firsts before hops order.1))

pub counted_firsts : (p : Hop → Bool) (hops : List Hop) → count_by p (firsts hops) ≤ count_by p hops
counted_firsts p [] = omega arith
counted_firsts p (h ∷ hops) =
    omega (arith, counted_firsts p hops, counted_kept p (is_other h) (firsts hops), sum_by-cons (λ y. cond (p y) 1 0) h hops, sum_by-cons (λ y. cond (p y) 1 0) h (filter (is_other h) (firsts hops)))

apart_firsts : (hops : List Hop) → InOrder is_other (firsts hops)
apart_firsts [] = tt
apart_firsts (h ∷ hops) = (each_passes (is_other h) (firsts hops), InOrder-filter is_other (is_other h) (firsts hops) (apart_firsts hops))

once_apart : (hops : List Hop) → InOrder is_other hops → AllPairs (λ a b. same_pair (a.chunk, a.to) (b.chunk, b.to) ≡ false) hops
once_apart [] order i j d low high = absurd (omega arith)
once_apart (h ∷ hops) order zero (suc j) d low high = not-true _ (All-from_recursion (λ y. is_other h y ≡ true) hops order.0 j d (omega arith))
once_apart (h ∷ hops) order (suc i) (suc j) d low high = once_apart hops order.1 i j d (omega arith) (omega arith)
once_apart (h ∷ hops) order i zero d low high = absurd (omega arith)

-- no two of them bring one chunk to one node
pub once_firsts : (hops : List Hop) → AllPairs (λ a b. same_pair (a.chunk, a.to) (b.chunk, b.to) ≡ false) (firsts hops)
once_firsts hops = once_apart (firsts hops) (apart_firsts hops)

-- for each send there is a first one that brings the same
pub first_of : (h : Hop) (hops : List Hop) → Among h hops → (o : Hop) × Among o (firsts hops) × (to_pair o ≡ to_pair h)
first_of h [] among = absurd among
first_of h (x ∷ hops) (inl here) = (x, inl refl, ap to_pair here)
first_of h (x ∷ hops) (inr later) =
    let found = first_of h hops later in
    elim (cases_Bool (is_other x found.0)) [
      | inl other ↦ (found.0, inr (among_kept (is_other x) found.0 (firsts hops) found.1 other), found.2)
      | inr as_first ↦ (x, inl refl, pair_is (to_pair x) (to_pair found.0) (not-false _ as_first) ∙ found.2)
    ]
