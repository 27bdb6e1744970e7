-- Tables and lists that loops fill.
use Rattle.std.proofs.{Common.{◌≡◌, ℕ, ◌+◌, ◌<◌, Bool, true, false, cond, List, [], ◌∷◌, ◌++◌, get_or, length, map, slice_index_or, slice_set, take, sym, ap, ◌∙◌, ⊎_elim, arith, filter}, lemmas.Bool.cases_eq}
use Rattle.std.{proofs.lemmas.List.{append-nil, get_or-set_same, get_or-set_other, map_more, Elements.filter-append}, specs.List.range_with_len}
use Rattle.node_cuts.proofs.Masks.{range_more}

-- a cell more
pub filled : (cells : List Bool) (n : ℕ) (b : Bool) (f : ℕ → Bool) → n < length cells → ((k : ℕ) → k < n → slice_index_or cells k false ≡ f k) → b ≡ f n
    → (k : ℕ) → k < n + 1 → slice_index_or (slice_set cells n b) k false ≡ f k
filled cells n b f inside before is k below =
    ⊎_elim
    (λ (here : k ≡ n). ap (λ i. slice_index_or (slice_set cells n b) i false) here ∙ get_or-set_same cells n b false inside ∙ is ∙ ap f (sym here))
    (λ (other : k ≡ n → ⊥). get_or-set_other cells n k b false other ∙ before k (omega (arith, below, other)))
    (cases_eq k n)

-- a number more that a test keeps or not
kept_more : (p : ℕ → Bool) (n : ℕ) → filter p (range_with_len 0 (n + 1)) ≡ filter p (range_with_len 0 n) ++ cond (p n) (n ∷ []) []
kept_more p n = ap (filter p) (range_more 0 n n (omega arith)) ∙ filter-append p (range_with_len 0 n) (n ∷ [])

pub kept_yes : (p : ℕ → Bool) (n : ℕ) (before : List ℕ) → p n ≡ true → before ≡ filter p (range_with_len 0 n) → before ++ n ∷ [] ≡ filter p (range_with_len 0 (n + 1))
kept_yes p n before kept is = (λ i. is i ++ cond (sym kept i) (n ∷ []) []) ∙ sym (kept_more p n)

pub kept_no : (p : ℕ → Bool) (n : ℕ) (before : List ℕ) → p n ≡ false → before ≡ filter p (range_with_len 0 n) → before ≡ filter p (range_with_len 0 (n + 1))
kept_no p n before left is = is ∙ sym (append-nil (filter p (range_with_len 0 n))) ∙ ap (λ b. filter p (range_with_len 0 n) ++ cond b (n ∷ []) []) (sym left) ∙ sym (kept_more p n)

-- an element more that was mapped
pub mapped_more : {X Y : Type 0} (f : X → Y) (xs : List X) (i : ℕ) (d : X) (ys now : List Y) (y : Y) → i < length xs → ys ≡ map f (take i xs) → y ≡ f (get_or xs i d) → now ≡ ys ++ y ∷ [] → now ≡ map f (take (i + 1) xs)
mapped_more f xs i d ys now y inside made is added = added ∙ (λ j. made j ++ is j ∷ []) ∙ sym (map_more f xs i d inside)
