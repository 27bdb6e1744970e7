-- Lists whose elements differ, as they are read one after another.
use Rattle.std.proofs.{Common.{◌≡◌, ◌≢◌, ℕ, ◌<◌, Bool, false, List, [], ◌∷◌, ◌++◌, length, get_or, refl, sym, ◌∙◌, subst, arith}, lemmas.{Grind.common_steps, Bool.{Decides.nat_tests, both_ways, false_from_ne_true}}}
use Rattle.std.{proofs.lemmas.List.{length-append, get_or_append_left, get_or_at, Quantifiers.all_pairs_push, Folds.{list_any_at, list_any_none}}, specs.{Bool.Decides, List.{All, AllPairs, list_any}}}

-- each two elements differ
abbrev pub AreDistinct : {A : Type 0} → List A → Type 0
AreDistinct xs = AllPairs (λ a b. a ≢ b) xs

pub distinct_nil : {A : Type 0} → AreDistinct {A = A} []
distinct_nil = λ i j d ordered h. absurd (omega arith)

-- an element that was not read before keeps them distinct
pub distinct_push : {A : Type 0} (same : A → A → Bool) → ((a b : A) → Decides (same a b) (a ≡ b)) → (before : List A) (x : A) → list_any (same x) before ≡ false → AreDistinct before → AreDistinct (before ++ x ∷ [])
distinct_push {A} same decides before x none distinct = grind (arith, nat_tests, common_steps, all_pairs_push, both_ways, list_any_at)

-- of distinct elements, none was read before
pub none_before : {A : Type 0} (same : A → A → Bool) → ((a b : A) → Decides (same a b) (a ≡ b)) → (before : List A) (x : A) (xs : List A) → AreDistinct (before ++ x ∷ xs) → list_any (same x) before ≡ false
none_before {A} same decides before x xs distinct = list_any_none (same x) before other
  where
    other : (k : ℕ) (d : A) → k < length before → same x (get_or before k d) ≡ false
    other k d h =
        let front : get_or (before ++ x ∷ xs) k d ≡ get_or before k d = get_or_append_left before (x ∷ xs) d k h in
        let here : get_or (before ++ x ∷ xs) (length before) d ≡ x = get_or_at before x xs d (length before) refl in
        let apart = distinct k (length before) d h (omega (arith, length-append before (x ∷ xs))) in
        false_from_ne_true (same x (get_or before k d)) (λ t. apart (front ∙ sym ((decides x (get_or before k d)).0 t) ∙ sym here))

-- what holds of each element holds of the next
pub next_has : {A : Type 0} (P : A → Type 0) (before : List A) (x : A) (xs : List A) → All P (before ++ x ∷ xs) → P x
next_has P before x xs all = subst P (get_or_at before x xs x (length before) refl) (all (length before) x (omega (arith, length-append before (x ∷ xs))))
