-- The usable links, row by row.
use Rattle.std.proofs.{Common.{◌≡◌, ℕ, suc, ◌+◌, ◌≤◌, Bool, cond, List, [], ◌∷◌, ◌++◌, map, sym, ap, ◌∙◌, arith, append_assoc, filter}, lemmas.List.{Elements.filter-append, FromFn.filter_of_map_range_with_len_more}}
use Rattle.std.specs.List.{range_with_len}
use Rattle.list_laws.proofs.Ranges.{flat_map-range_suc}
use Rattle.schedule.{specs.{Links.{TopologyValue, is_usable, usable_links}, Placed.all_pairs, Tables.{marked_at, Marks}}, proofs.Placing.{IsBelow, filter_alike, all_below}}

-- the pairs of one row, with so many columns
abbrev pub row : ℕ → ℕ → List (ℕ × ℕ)
row columns from = map (λ to. (from, to)) (range_with_len 0 columns)

-- one more column, in a loop
pub row_more : (p : ℕ × ℕ → Bool) (old before after : List (ℕ × ℕ)) (from to : ℕ)
    → before ≡ old ++ filter p (row to from) → after ≡ before ++ cond (p (from, to)) ((from, to) ∷ []) [] → after ≡ old ++ filter p (row (to + 1) from)
row_more p old before after from to b a =
    let zero : 0 + to ≡ to = omega arith in
    a ∙ ap (λ r. r ++ cond (p (from, to)) ((from, to) ∷ []) []) b ∙ append_assoc old (filter p (row to from)) (cond (p (from, to)) ((from, to) ∷ []) [])
    ∙ ap (λ r. old ++ r) (sym (filter_of_map_range_with_len_more p (λ t. (from, t)) 0 to to zero))

-- one more row, in a loop
pub rows_more : (p : ℕ × ℕ → Bool) (before after : List (ℕ × ℕ)) (columns from : ℕ)
    → before ≡ filter p (all_pairs from columns) → after ≡ before ++ filter p (row columns from) → after ≡ filter p (all_pairs (from + 1) columns)
rows_more p before after columns from b a =
    let one : suc from ≡ from + 1 = omega arith in
    let zero : 0 + from ≡ from = omega arith in
    a ∙ ap (λ r. r ++ filter p (row columns from)) b ∙ sym (filter-append p (all_pairs from columns) (row columns from))
    ∙ ap (filter p) (sym (flat_map-range_suc (row columns) 0 from from zero)) ∙ ap (λ n. filter p (all_pairs n columns)) one

-- the links that a table marks are the usable ones
pub marked_usable : (t : TopologyValue) (cells : List Bool) (links : List (ℕ × ℕ)) → t.nodes ≤ 16 → Marks cells (is_usable t)
    → links ≡ filter (marked_at cells) (all_pairs t.nodes t.nodes) → links ≡ usable_links t
marked_usable t cells links few marks is =
    is ∙ filter_alike (IsBelow t.nodes t.nodes) (marked_at cells) (is_usable t) (λ x below. marks x (omega (arith, few, below.0)) (omega (arith, few, below.1)))
    (all_pairs t.nodes t.nodes) (all_below t.nodes t.nodes)
