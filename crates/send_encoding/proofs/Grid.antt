-- Values in rows of one length: a cell is found by its row and its place.
use Rattle.std.proofs.{Common.{◌≡◌, ℕ, zero, suc, ◌+◌, ◌*◌, ◌<◌, List, map, length, get_or, refl, ap, ◌∙◌, arith, length-append, flat_map}, lemmas.List.{get_or-append-add, get_or_append_left}}
use Rattle.std.{proofs.lemmas.List.FromFn.{get_or-map-range_with_len, length-map-range_with_len}, specs.List.range_with_len}
use Rattle.send_encoding.{proofs.Everywhere.slot, specs.Assigning.cube}

pub rows_length : {X : Type 0} (g : ℕ → List X) (m a n : ℕ) → ((k : ℕ) → length (g k) ≡ m) → length (flat_map g (range_with_len a n)) ≡ n * m
rows_length g m a zero h = omega arith
rows_length g m a (suc n) h = length-append (g a) (flat_map g (range_with_len (a + 1) n)) ∙ omega (arith, h a, rows_length g m (a + 1) n h)

pub rows_at : {X : Type 0} (g : ℕ → List X) (m a n i j : ℕ) (d : X) → ((k : ℕ) → length (g k) ≡ m) → i < n → j < m → get_or (flat_map g (range_with_len a n)) (i * m + j) d ≡ get_or (g (a + i)) j d
rows_at g m a zero i j d h low few = absurd (omega (arith, low))
rows_at g m a (suc n) zero j d h low few = grind (arith, get_or_append_left)
rows_at g m a (suc n) (suc i) j d h low few = grind (arith, get_or-append-add, rows_at g m (a + 1) n i j d h)

pub layer_length : {X : Type 0} (f : ℕ → ℕ → ℕ → X) (rows from places c : ℕ) → length (flat_map (λ n. map (f c n) (range_with_len from places)) (range_with_len 0 rows)) ≡ rows * places
layer_length f rows from places c = rows_length (λ n. map (f c n) (range_with_len from places)) places 0 rows (λ n. length-map-range_with_len (f c n) from places)

pub cube_length : {X : Type 0} (f : ℕ → ℕ → ℕ → X) (layers rows from places : ℕ) → length (cube f layers rows from places) ≡ layers * rows * places
cube_length f layers rows from places = grind (arith, layer_length, rows_length)

pub cube_at : {X : Type 0} (f : ℕ → ℕ → ℕ → X) (layers rows from places c n j : ℕ) (d : X) → c < layers → n < rows → j < places → get_or (cube f layers rows from places) ((c * rows + n) * places + j) d ≡ f c n (from + j)
cube_at f layers rows from places c n j d cl nl jl =
    let layer = λ (k : ℕ). flat_map (λ n. map (f k n) (range_with_len from places)) (range_with_len 0 rows) in
    let place : (c * rows + n) * places + j ≡ c * (rows * places) + (n * places + j) = omega arith in
    let inside : n * places + j < rows * places = slot n j rows places nl jl in
    let c0 : 0 + c ≡ c = omega arith in
    let n0 : 0 + n ≡ n = omega arith in
    ap (λ k. get_or (cube f layers rows from places) k d) place
    ∙ rows_at layer (rows * places) 0 layers c (n * places + j) d (layer_length f rows from places) cl inside ∙ ap (λ k. get_or (layer k) (n * places + j) d) c0
    ∙ rows_at (λ n. map (f c n) (range_with_len from places)) places 0 rows n j d (λ n. length-map-range_with_len (f c n) from places) nl jl ∙ ap (λ k. get_or (map (f c k) (range_with_len from places)) j d) n0
    ∙ get_or-map-range_with_len (f c n) from places j (from + j) d jl refl
