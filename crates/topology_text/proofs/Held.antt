-- Who holds each chunk, node by node ascending, and the placement of these pairs.
use Rattle.std.proofs.Common.{◌≡◌, ℕ, zero, suc, ◌+◌, ◌-◌, ◌<◌, ◌≤◌, Bool, true, false, cond, eqb, List, [], ◌∷◌, ◌++◌, map, length, get_or, refl, ap, ◌∙◌, subst, arith, nat_lt}
use Rattle.std.{specs.List.{AllByRecursion, filter, flat_map, list_all, list_any, range_with_len}, proofs.lemmas.List.Elements.{filter-append, filter_agree}}
use Rattle.std.proofs.lemmas.{Bool.{and_parts, and_from, cases_eq, ltb-true, lt-ltb, ne_eqb, eq-eqb, or_from, or_left}, List.Folds.list_any-append}
use Rattle.list_laws.proofs.{Each.each_always, Tests.filter_none}
use Rattle.schedule.specs.Placed.{PlacementValue, same_pair, holds, IsPlacement}
use Rattle.topology_text.{specs.Reading.row_of_pairs, proofs.Inserted.among}

-- ---- numbers that ascend

-- from lo on and below hi, each above the one before it
abbrev pub Ascends : ℕ → ℕ → List ℕ → Type 0
Ascends lo hi [] = Unit {0}
Ascends lo hi (n ∷ ns) = ((lo ≤ n) × (n < hi)) × Ascends (n + 1) hi ns

pub ascends_push : (lo hi : ℕ) (before : List ℕ) (n : ℕ) → Ascends lo hi before → lo ≤ n → n < hi → list_all (λ other. nat_lt other n) before ≡ true → Ascends lo hi (before ++ n ∷ [])
ascends_push lo hi [] n ok low high above = ((low, high), tt)
ascends_push lo hi (x ∷ before) n ok low high above = grind (arith, and_parts, ltb-true, ascends_push (x + 1) hi before n ok.1)

-- what holds of one among numbers that ascend
pub ascends_next : (lo hi : ℕ) (before : List ℕ) (n : ℕ) (more : List ℕ) → Ascends lo hi (before ++ n ∷ more) → (lo ≤ n) × (n < hi)
ascends_next lo hi [] n more ok = ok.0
ascends_next lo hi (x ∷ before) n more ok = grind (arith, ascends_next (x + 1) hi before n more ok.1)

pub ascends_above : (lo hi : ℕ) (before : List ℕ) (n : ℕ) (more : List ℕ) → Ascends lo hi (before ++ n ∷ more) → list_all (λ other. nat_lt other n) before ≡ true
ascends_above lo hi [] n more ok = refl
ascends_above lo hi (x ∷ before) n more ok = grind (arith, ascends_next, and_from, nat_lt, lt-ltb, ascends_above (x + 1) hi before n more ok.1)

ascends_lower : (lo more hi : ℕ) (ns : List ℕ) → lo ≤ more → Ascends more hi ns → Ascends lo hi ns
ascends_lower lo more hi [] h ok = tt
ascends_lower lo more hi (n ∷ ns) h ok = let (low, high) = ok.0 in ((omega (arith, h, low), high), ok.1)

none_below : (lo hi n : ℕ) (ns : List ℕ) → Ascends lo hi ns → n < lo → list_any (eqb n) ns ≡ false
none_below lo hi n [] ok h = refl
none_below lo hi n (x ∷ ns) ok h = grind (arith, or_from, ne_eqb, none_below (x + 1) hi n ns ok.1)

-- ---- numbers of a range that pass a test

range_alike : (f g : ℕ → Bool) (lo len : ℕ) → ((n : ℕ) → lo ≤ n → n < lo + len → f n ≡ g n) → filter f (range_with_len lo len) ≡ filter g (range_with_len lo len)
range_alike f g lo zero same = refl
range_alike f g lo (suc len) same = grind (arith, range_alike f g (lo + 1) len)

pub range_ascends : (f : ℕ → Bool) (lo len : ℕ) → Ascends lo (lo + len) (filter f (range_with_len lo len))
range_ascends f lo zero = tt
range_ascends f lo (suc len) =
    let rest : Ascends (lo + 1) (lo + suc len) (filter f (range_with_len (lo + 1) len)) = subst (λ (hi : ℕ). Ascends (lo + 1) hi (filter f (range_with_len (lo + 1) len))) (omega arith) (range_ascends f (lo + 1) len) in
    elim (f lo) as (λ b. Ascends lo (lo + suc len) (cond b (lo ∷ filter f (range_with_len (lo + 1) len)) (filter f (range_with_len (lo + 1) len)))) [
      | true ↦ ((omega arith, omega arith), rest)
      | false ↦ ascends_lower lo (lo + 1) (lo + suc len) (filter f (range_with_len (lo + 1) len)) (omega arith) rest
    ]

-- of a range, those among numbers that ascend within it are these numbers
range_kept : (ns : List ℕ) (lo len : ℕ) → Ascends lo (lo + len) ns → filter (λ n. list_any (eqb n) ns) (range_with_len lo len) ≡ ns
range_kept [] lo len ok = filter_none (λ (n : ℕ). false) (range_with_len lo len) (each_always (λ (n : ℕ). false ≡ false) (λ n. refl) (range_with_len lo len))
range_kept (x ∷ ns) lo zero ok = let (low, high) = ok.0 in absurd (omega (arith, low, high))
range_kept (x ∷ ns) lo (suc len) ok = grind (arith, or_left, eq-eqb, range_alike, ne_eqb, ascends_lower, or_from, none_below, cases_eq, range_kept ns (lo + 1) len, range_kept (x ∷ ns) (lo + 1) len)

-- ---- chunk by chunk

-- the pairs of chunks numbered from g on, each with the nodes that hold it
abbrev pub pairs_from : ℕ → List (List ℕ) → List (ℕ × ℕ)
pairs_from g [] = []
pairs_from g (ns ∷ more) = row_of_pairs g ns ++ pairs_from (g + 1) more

abbrev pub nodes_with : (ℕ × ℕ → Bool) → ℕ → ℕ → List ℕ
nodes_with h nodes g = filter (λ node. h (g, node)) (range_with_len 0 nodes)

-- for so many chunks, numbered from g on, the nodes at which the test passes
abbrev pub held_by : (ℕ × ℕ → Bool) → ℕ → ℕ → ℕ → List (List ℕ)
held_by h nodes g zero = []
held_by h nodes g (suc len) = nodes_with h nodes g ∷ held_by h nodes (g + 1) len

abbrev pub EachAscends : ℕ → List (List ℕ) → Type 0
EachAscends nodes rows = AllByRecursion (Ascends 0 nodes) rows

pub held_ascends : (h : ℕ × ℕ → Bool) (nodes g len : ℕ) → EachAscends nodes (held_by h nodes g len)
held_ascends h nodes g zero = tt
held_ascends h nodes g (suc len) =
    (subst (λ (hi : ℕ). Ascends 0 hi (nodes_with h nodes g)) (omega arith) (range_ascends (λ node. h (g, node)) 0 nodes), held_ascends h nodes (g + 1) len)

filter_row : (h : ℕ × ℕ → Bool) (g : ℕ) (ns : List ℕ) → filter h (map (λ n. (g, n)) ns) ≡ map (λ n. (g, n)) (filter (λ n. h (g, n)) ns)
filter_row h g [] = refl
filter_row h g (n ∷ ns) = grind (arith, filter_row h g ns)

-- the pairs that pass a test, chunk by chunk
pub pairs_held : (h : ℕ × ℕ → Bool) (nodes g len : ℕ) → filter h (flat_map (λ c. map (λ n. (c, n)) (range_with_len 0 nodes)) (range_with_len g len)) ≡ pairs_from g (held_by h nodes g len)
pairs_held h nodes g zero = refl
pairs_held h nodes g (suc len) = grind (arith, filter-append, filter_row, pairs_held h nodes (g + 1) len)

-- of these chunks the test passes exactly the pairs with these nodes
pub held_same : (h : ℕ × ℕ → Bool) (nodes g : ℕ) (rows : List (List ℕ)) → EachAscends nodes rows → ((k n : ℕ) → g ≤ k → h (k, n) ≡ list_any (eqb n) (get_or rows (k - g) [])) → held_by h nodes g (length rows) ≡ rows
held_same h nodes g [] ok fits = refl
held_same h nodes g (ns ∷ more) ok fits =
    let none : g - g ≡ 0 = omega arith in
    let first : (n : ℕ) → h (g, n) ≡ list_any (eqb n) ns = λ n. fits g n (omega arith) ∙ ap (λ i. list_any (eqb n) (get_or (ns ∷ more) i [])) none in
    let here : nodes_with h nodes g ≡ ns = filter_agree (λ n. h (g, n)) (λ n. list_any (eqb n) ns) first (range_with_len 0 nodes) ∙ range_kept ns 0 nodes (subst (λ (hi : ℕ). Ascends 0 hi ns) (omega arith) ok.0) in
    let later : (k n : ℕ) → g + 1 ≤ k → h (k, n) ≡ list_any (eqb n) (get_or more (k - (g + 1)) []) = λ k n low.
    let one : k - g ≡ suc (k - (g + 1)) = omega (arith, low) in
    fits k n (omega (arith, low)) ∙ ap (λ i. list_any (eqb n) (get_or (ns ∷ more) i [])) one in
    λ i. here i ∷ held_same h nodes (g + 1) more ok.1 later i

-- ---- what these pairs hold

any_row : (g n : ℕ) (ns : List ℕ) → list_any (same_pair (g, n)) (row_of_pairs g ns) ≡ list_any (eqb n) ns
any_row g n [] = refl
any_row g n (m ∷ ns) = rw (eq-eqb g g refl, any_row g n ns) refl

other_row : (k g n : ℕ) (ns : List ℕ) → (k ≡ g → ⊥) → list_any (same_pair (k, n)) (row_of_pairs g ns) ≡ false
other_row k g n [] apart = refl
other_row k g n (m ∷ ns) apart = rw (ne_eqb k g apart) (other_row k g n ns apart)

any_after : (k g n : ℕ) (rows : List (List ℕ)) → k < g → list_any (same_pair (k, n)) (pairs_from g rows) ≡ false
any_after k g n [] h = refl
any_after k g n (ns ∷ more) h = grind (arith, list_any-append, or_from, other_row, any_after k (g + 1) n more (omega (arith, h)))

any_from : (k g n : ℕ) (rows : List (List ℕ)) → g ≤ k → list_any (same_pair (k, n)) (pairs_from g rows) ≡ list_any (eqb n) (get_or rows (k - g) [])
any_from k g n [] low = refl
any_from k g n (ns ∷ more) low = grind (arith, list_any-append, among, any_row, any_after, other_row, cases_eq, any_from k (g + 1) n more)

-- the placement of these pairs
abbrev pub placement_from : ℕ → ℕ → List (List ℕ) → PlacementValue
placement_from chunks nodes rows = record { chunks = chunks; nodes = nodes; pairs = pairs_from 0 rows }

pub rows_held : (chunks nodes : ℕ) (rows : List (List ℕ)) → length rows ≡ chunks → EachAscends nodes rows → held_by (holds (placement_from chunks nodes rows)) nodes 0 (length rows) ≡ rows
rows_held chunks nodes rows long ok = held_same (holds (placement_from chunks nodes rows)) nodes 0 rows ok (λ k n low. any_from k 0 n rows low)

pub rows_placement : (chunks nodes : ℕ) (rows : List (List ℕ)) → length rows ≡ chunks → EachAscends nodes rows → IsPlacement (placement_from chunks nodes rows)
rows_placement chunks nodes rows long ok = grind (arith, rows_held, pairs_held)

pub placement_rows : (p : PlacementValue) → IsPlacement p → p.pairs ≡ pairs_from 0 (held_by (holds p) p.nodes 0 p.chunks)
placement_rows p ok = ap (λ q. q.pairs) ok ∙ pairs_held (holds p) p.nodes 0 p.chunks
