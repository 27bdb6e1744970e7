-- Elements of a list that pass a test.
use Rattle.std.proofs.Common.{◌≡◌, ℕ, ◌≤◌, Bool, true, false, cond, List, [], ◌∷◌, length, get_or, refl, sym, ap, ◌∙◌, arith, filter, count_by, All}
use Rattle.std.{specs.List.{list_any, enumerate_from, position_or_len}, proofs.lemmas.{Bool.false≢true, List.{Folds.{Any-from_list_any, list_any_at}, FromFn.{length-enumerate_from, get_or-enumerate_from}}}}
use Rattle.std.proofs.lemmas.List.{Sums.{sum_by-cons, length-filter, passes_at_first}, Elements.{All-head, All-tail, All-contains, All-filter, filter_passes, recursion_from_All}}
use Rattle.list_laws.proofs.Tests.{filter_none}
use Rattle.schedule.proofs.First.{any_found, any_among, among_kept, Contains-from_Among}
use Rattle.send_encoding.proofs.Everywhere.{place_below}

-- an element that passes; what it passes, some element passes
pub member : {X : Type 0} (p : X → Bool) (Q : X → Type 0) (xs : List X) → All Q xs → list_any p xs ≡ true → (x : X) × (p x ≡ true) × ((q : X → Bool) → q x ≡ true → list_any q xs ≡ true) × Q x
member p Q xs all h =
    let found = any_found p xs h in (found.0, found.2, λ q u. any_among q found.0 xs found.1 u, All-contains Q xs found.0 all (Contains-from_Among found.0 xs found.1))

pub any_weaker : {X : Type 0} (p q : X → Bool) (Q : X → Type 0) (xs : List X) → All Q xs → ((x : X) → Q x → p x ≡ true → q x ≡ true) → list_any p xs ≡ true → list_any q xs ≡ true
any_weaker p q Q xs all h e = let found = member p Q xs all e in found.2 q (h found.0 found.3 found.1)

pub numbered_any : {X : Type 0} (p : X → Bool) (k : ℕ) (xs : List X) → list_any p xs ≡ true → list_any (λ z. p z.1) (enumerate_from k xs) ≡ true
numbered_any p k xs h =
    let found = Any-from_list_any p xs h in
    list_any_at (λ z. p z.1) (enumerate_from k xs) found.0 (0, found.1) (omega (arith, found.2, length-enumerate_from k xs))
    (ap (λ z. p z.1) (get_or-enumerate_from k xs found.0 (0, found.1) found.2) ∙ ap p found.3 ∙ found.4)

pub filter_any : {X : Type 0} (p r : X → Bool) (xs : List X) → ((x : X) → r x ≡ true → p x ≡ true) → list_any r xs ≡ true → list_any r (filter p xs) ≡ true
filter_any p r xs h e = let found = any_found r xs e in any_among r found.0 (filter p xs) (among_kept p found.0 xs found.1 (h found.0 found.2)) found.2

pub count_weaker : {X : Type 0} (p q : X → Bool) (Q : X → Type 0) (xs : List X) → All Q xs → ((x : X) → Q x → p x ≡ true → q x ≡ true) → count_by p xs ≤ count_by q xs
count_weaker p q Q [] all h = omega arith
count_weaker p q Q (x ∷ xs) all h =
    let one = counted (p x) (q x) (h x (All-head Q x xs all)) in
    omega (arith, one, sum_by-cons (λ y. cond (p y) 1 0) x xs, sum_by-cons (λ y. cond (q y) 1 0) x xs, count_weaker p q Q xs (All-tail Q x xs all) h)
  where
    counted : (b d : Bool) → (b ≡ true → d ≡ true) → cond b 1 0 ≤ cond d 1 0
    counted false d k = omega arith
    counted true true k = omega arith
    counted true false k = absurd (false≢true (k refl))

pub kept : {X : Type 0} (p : X → Bool) (Q : X → Type 0) (xs : List X) → All Q xs → All (λ x. Q x × (p x ≡ true)) (filter p xs)
kept p Q xs all = λ k d low. (All-filter p Q xs all k d low, filter_passes p xs k d low)

pub none_of : {X : Type 0} (p : X → Bool) (xs : List X) → All (λ x. p x ≡ false) xs → count_by p xs ≡ 0
none_of p xs h = sym (length-filter p xs) ∙ ap length (filter_none p xs (recursion_from_All (λ x. p x ≡ false) xs h))

-- the place of the first that passes has one that passes
pub passes_at : {X : Type 0} (p : X → Bool) (xs : List X) (d : X) → list_any p xs ≡ true → p (get_or xs (position_or_len p xs) d) ≡ true
passes_at p xs d h = passes_at_first p xs d (place_below p xs h)
