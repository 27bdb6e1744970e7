-- A part of a text, cut at a separator.
use Rattle.std.proofs.Common.{◌≡◌, ◌≢◌, ℕ, zero, suc, ◌+◌, ◌-◌, ◌<◌, ◌≤◌, false, eqb, List, [], ◌∷◌, ◌++◌, length, get_or, take, drop, slice_range, ap, ◌∙◌, arith}
use Rattle.std.{specs.List.All, proofs.lemmas.{Bool.ne_eqb, List.{get_or-take, get_or-drop, length-take, length-drop, drop-drop, Elements.All-from_get_or}}}

-- the separator isn't among them
abbrev pub IsApart : ℕ → List ℕ → Type 0
IsApart separator xs = All (λ b. eqb b separator ≡ false) xs

pub no_separator : (text : List ℕ) (from to separator : ℕ) → from ≤ to → to ≤ length text → ((k : ℕ) → from ≤ k → k < to → get_or text k 0 ≢ separator) → IsApart separator (slice_range text from to)
no_separator text from to separator ordered within apart = All-from_get_or (λ b. eqb b separator ≡ false) (slice_range text from to) 0 each
  where
    each : (i : ℕ) → i < length (slice_range text from to) → eqb (get_or (slice_range text from to) i 0) separator ≡ false
    each i h =
        let here : i < to - from = omega (arith, length-take (to - from) (drop from text), length-drop from text) in
        rw (get_or-take (to - from) (drop from text) i 0 here, get_or-drop from text i 0)
        (ne_eqb (get_or text (from + i) 0) separator (apart (from + i) (omega arith) (omega arith)))

cut_front : (xs : List ℕ) (n m k : ℕ) → n < length xs → k ≡ n + (m + 1) → take k xs ≡ take n xs ++ get_or xs n 0 ∷ take m (drop (suc n) xs)
cut_front [] n m k h e = absurd (omega arith)
cut_front (x ∷ xs) zero m zero h e = absurd (omega arith)
cut_front (x ∷ xs) zero m (suc k) h e = let same : k ≡ m = omega arith in ap (λ t. x ∷ take t xs) same
cut_front (x ∷ xs) (suc n) m zero h e = absurd (omega arith)
cut_front (x ∷ xs) (suc n) m (suc k) h e = ap (λ t. x ∷ t) (cut_front xs n m k (omega arith) (omega arith))

pub cut_at : (text : List ℕ) (from at to separator : ℕ) → from ≤ at → at < to → to ≤ length text → get_or text at 0 ≡ separator → slice_range text from to ≡ slice_range text from at ++ separator ∷ slice_range text (at + 1) to
cut_at text from at to separator ordered before within here =
    let cut = cut_front (drop from text) (at - from) (to - (at + 1)) (to - from) (omega (arith, length-drop from text)) (omega arith) in
    let byte : get_or (drop from text) (at - from) 0 ≡ separator = get_or-drop from text (at - from) 0 ∙ ap (λ k. get_or text k 0) (omega arith) ∙ here in
    let rest : drop (suc (at - from)) (drop from text) ≡ drop (at + 1) text = drop-drop (suc (at - from)) from text ∙ ap (λ k. drop k text) (omega arith) in
    cut ∙ ap (λ b. take (at - from) (drop from text) ++ b ∷ take (to - (at + 1)) (drop (suc (at - from)) (drop from text))) byte
    ∙ ap (λ zs. take (at - from) (drop from text) ++ separator ∷ take (to - (at + 1)) zs) rest
