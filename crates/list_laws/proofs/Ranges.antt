-- Lists made along a range of numbers.
use Rattle.std.proofs.{Common.{◌≡◌, ℕ, zero, suc, ◌+◌, ◌<◌, ◌≤◌, Bool, true, List, ◌++◌, sym, ap, ◌∙◌, ⊎_elim, arith, append_assoc}, lemmas.List.append-nil}
use Rattle.std.{specs.List.{flat_map, list_any, range_with_len}, proofs.lemmas.Bool.{cases_eq, or_left, or_right}}

-- one number more at the end
pub flat_map-range_suc : {X : Type 0} (g : ℕ → List X) (a n j : ℕ) → a + n ≡ j → flat_map g (range_with_len a (suc n)) ≡ flat_map g (range_with_len a n) ++ g j
flat_map-range_suc g a zero j e = let same : a ≡ j = omega (arith, e) in append-nil (g a) ∙ ap g same
flat_map-range_suc g a (suc n) j e =
    let next : a + 1 + n ≡ j = omega (arith, e) in
    ap (λ r. g a ++ r) (flat_map-range_suc g (a + 1) n j next) ∙ sym (append_assoc (g a) (flat_map g (range_with_len (a + 1) n)) (g j))

pub flat_map-range_more : {X : Type 0} (g : ℕ → List X) (a n j : ℕ) → a + n ≡ j → flat_map g (range_with_len a (n + 1)) ≡ flat_map g (range_with_len a n) ++ g j
flat_map-range_more g a n j e = let one : n + 1 ≡ suc n = omega arith in ap (λ k. flat_map g (range_with_len a k)) one ∙ flat_map-range_suc g a n j e

-- a number of a range that passes
pub any_at : (p : ℕ → Bool) (a n k : ℕ) → a ≤ k → k < a + n → p k ≡ true → list_any p (range_with_len a n) ≡ true
any_at p a zero k low high passes = absurd (omega (arith, low, high))
any_at p a (suc n) k low high passes =
    ⊎_elim
    (λ (here : k ≡ a). or_left (p a) (list_any p (range_with_len (a + 1) n)) (ap p (sym here) ∙ passes))
    (λ (later : k ≡ a → ⊥). or_right (p a) (list_any p (range_with_len (a + 1) n)) (any_at p (a + 1) n k (omega (arith, low, later)) (omega (arith, high)) passes))
    (cases_eq k a)
