-- Takes of one step, one after the other, on bags with counts held at 2: what they add, and what they copy.
use Rattle.std.{proofs.{Common.{◌≡◌, ℕ, ◌+◌, ◌≤◌, Bool, ◌&&◌, cond, eqb, min, max, List, [], ◌∷◌, map, refl, sym, ap, ◌∙◌, arith, filter, fold, not}, lemmas.Bool.Decides.nat_tests}, specs.List.{AllByRecursion, reduce}}
use Rattle.schedule.specs.{declared.hop.Hop.Hop, Bags.{Bag, Bags, added, held_at_2, is_empty}, JoinedRuns.replaced}

-- ---- counts held at 2

min_sum : (x y : ℕ) → min (min x 2 + min y 2) 2 ≡ min (x + y) 2
min_sum x y = grind arith

pub held_added : (a b : Bag) → held_at_2 (added (held_at_2 a) (held_at_2 b)) ≡ held_at_2 (added a b)
held_added [] b = refl
held_added (x ∷ a) [] = refl
held_added (x ∷ a) (y ∷ b) = ap (λ c. c ∷ held_at_2 (added (held_at_2 a) (held_at_2 b))) (min_sum x y) ∙ ap (λ bag. min (x + y) 2 ∷ bag) (held_added a b)

pub min_none : (x : ℕ) → eqb (min x 2) 0 ≡ eqb x 0
min_none x = grind (arith, nat_tests)

pub held_empty : (a : Bag) → is_empty (held_at_2 a) ≡ is_empty a
held_empty [] = refl
held_empty (x ∷ a) = ap (λ t. t && is_empty (held_at_2 a)) (min_none x) ∙ ap (λ t. eqb x 0 && t) (held_empty a)

-- ---- adding

-- sums with counts held at 2, in order, are the sum held at 2
pub adds_held : (bags : Bags) (hops : List Hop) (own : Bag)
    → fold (λ bag h. held_at_2 (added bag (held_at_2 (bags (h.chunk, h.from))))) (held_at_2 own) hops ≡ held_at_2 (fold added own (map (λ h. bags (h.chunk, h.from)) hops))
adds_held bags [] own = refl
adds_held bags (h ∷ hops) own = grind (arith, held_added, adds_held bags hops)

-- ---- copying

-- the bag unless it is empty
abbrev pub copied : Bag → Bag → Bag
copied old bag = cond (is_empty bag) old bag

-- the bag of the last of these senders
abbrev last_of : (ℕ → Bag) → Bag → List ℕ → Bag
last_of bags own [] = own
last_of bags own (from ∷ froms) = last_of bags (bags from) froms

abbrev is_full : (ℕ → Bag) → Hop → Bool
is_full bags h = not (is_empty (bags h.from))

copies_last : (bags : ℕ → Bag) (hops : List Hop) (own : Bag)
    → fold (λ bag h. copied bag (held_at_2 (bags h.from))) own hops ≡ last_of (λ from. held_at_2 (bags from)) own (map (λ h. h.from) (filter (is_full bags) hops))
copies_last bags [] own = refl
copies_last bags (h ∷ hops) own = grind (arith, held_empty, copies_last bags hops)

-- each is at most those after it
abbrev pub Rises : List ℕ → Type 0
Rises [] = Unit {0}
Rises (x ∷ xs) = AllByRecursion (λ y. x ≤ y) xs × Rises xs

max_later : (x y : ℕ) → x ≤ y → max x y ≡ y
max_later x y low = grind arith

greatest_last : (bags : ℕ → Bag) (x : ℕ) (xs : List ℕ) → AllByRecursion (λ y. x ≤ y) xs → Rises xs → last_of bags (bags x) xs ≡ bags (fold max x xs)
greatest_last bags x [] low rises = refl
greatest_last bags x (y ∷ ys) low rises = greatest_last bags y ys rises.0 rises.1 ∙ ap (λ z. bags (fold max z ys)) (sym (max_later x y low.0))

-- copies in the order of their senders leave the bag of the greatest sender whose bag is not empty
pub copies_held : (before : Bags) (chunk node : ℕ) (hops : List Hop) → Rises (map (λ h. h.from) (filter (λ h. not (is_empty (before (chunk, h.from)))) hops))
    → fold (λ bag h. copied bag (held_at_2 (before (chunk, h.from)))) (held_at_2 (before (chunk, node))) hops
    ≡ held_at_2 (replaced before (chunk, node) (reduce max (map (λ h. h.from) (filter (λ h. not (is_empty (before (chunk, h.from)))) hops))))
copies_held before chunk node hops rises =
    copies_last (λ from. before (chunk, from)) hops (held_at_2 (before (chunk, node)))
    ∙ last_greatest (map (λ h. h.from) (filter (λ h. not (is_empty (before (chunk, h.from)))) hops)) rises
  where
    last_greatest : (froms : List ℕ) → Rises froms → last_of (λ from. held_at_2 (before (chunk, from))) (held_at_2 (before (chunk, node))) froms ≡ held_at_2 (replaced before (chunk, node) (reduce max froms))
    last_greatest [] rises = refl
    last_greatest (x ∷ xs) rises = greatest_last (λ from. held_at_2 (before (chunk, from))) x xs rises.0 rises.1
