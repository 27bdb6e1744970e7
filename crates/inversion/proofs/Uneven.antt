-- The first uneven count, row by row and node by node.
use Rattle.std.proofs.{Common.{arith, ◌≡◌, ℕ, ◌+◌, ◌-◌, ◌<◌, ◌≤◌, Bool, not, cond, eqb, List, ◌∷◌, map, get_or, Option, None, ap}, lemmas.List.{Elements.filter-append, Concat.flat_map-append, Folds.find-append}}
use Rattle.std.specs.{List.{filter, find, flat_map, range_with_len}, Option.{option_map, option_or}}
use Rattle.list_laws.proofs.Tests.{find-map}
use Rattle.schedule.{specs.{Placed.{PlacementValue, IsPlacement, holds}, Bags.{Bag, Bags}}, proofs.Grids.{range_more, range_none, rows_from, rows_start}}
use Rattle.inversion.specs.Judging.{first_uneven}

-- the first node that has not contributed to the bag exactly once
abbrev pub uneven_node : Bag → ℕ → Option ℕ
uneven_node bag nodes = find (λ of. not (eqb (get_or bag of 0) 1)) (range_with_len 0 nodes)

-- where there is one at a pair, it is the first
pub uneven_cons : (bags : Bags) (nodes : ℕ) (pair : ℕ × ℕ) (pairs : List (ℕ × ℕ)) → first_uneven bags nodes (pair ∷ pairs) ≡ option_or (option_map (λ of. (pair.0, pair.1, of)) (uneven_node (bags pair) nodes)) (first_uneven bags nodes pairs)
uneven_cons bags nodes pair pairs = grind (arith, find-append, find-map)

-- ---- one row, from a node on

abbrev pub row_from : Bags → ℕ → (ℕ × ℕ → Bool) → ℕ → ℕ → Option (ℕ × ℕ × ℕ)
row_from bags nodes held chunk node = first_uneven bags nodes (filter held (map (λ n. (chunk, n)) (range_with_len node (nodes - node))))

-- what is said of one pair
abbrev pub uneven_here : Bags → ℕ → (ℕ × ℕ → Bool) → ℕ × ℕ → Option ℕ
uneven_here bags nodes held pair = cond (held pair) (uneven_node (bags pair) nodes) None

-- what is said of it is said of the row, if it is the first
pub row_on : (bags : Bags) (nodes : ℕ) (held : ℕ × ℕ → Bool) (chunk node : ℕ) (first : Option ℕ) → node < nodes → first ≡ uneven_here bags nodes held (chunk, node)
    → row_from bags nodes held chunk node ≡ option_or (option_map (λ of. (chunk, node, of)) first) (row_from bags nodes held chunk (node + 1))
row_on bags nodes held chunk node first below is = grind (arith, range_more, uneven_cons)

pub row_past : (bags : Bags) (nodes : ℕ) (held : ℕ × ℕ → Bool) (chunk node : ℕ) → nodes ≤ node → row_from bags nodes held chunk node ≡ None
row_past bags nodes held chunk node past = ap (λ ns. first_uneven bags nodes (filter held (map (λ n. (chunk, n)) ns))) (range_none node nodes past)

-- ---- all rows, from one on

abbrev pub grid_from : Bags → ℕ → (ℕ × ℕ → Bool) → ℕ → ℕ → Option (ℕ × ℕ × ℕ)
grid_from bags nodes held low high = first_uneven bags nodes (filter held (rows_from low high nodes))

-- what is said of a row
abbrev pub whole_row : Bags → ℕ → (ℕ × ℕ → Bool) → ℕ → Option (ℕ × ℕ × ℕ)
whole_row bags nodes held chunk = first_uneven bags nodes (filter held (map (λ node. (chunk, node)) (range_with_len 0 nodes)))

pub grid_on : (bags : Bags) (nodes : ℕ) (held : ℕ × ℕ → Bool) (low high : ℕ) (first : Option (ℕ × ℕ × ℕ)) → low < high → first ≡ whole_row bags nodes held low → grid_from bags nodes held low high ≡ option_or first (grid_from bags nodes held (low + 1) high)
grid_on bags nodes held low high first below is = grind (arith, rows_from, range_more, filter-append, flat_map-append, find-append)

pub grid_past : (bags : Bags) (nodes : ℕ) (held : ℕ × ℕ → Bool) (low high : ℕ) → high ≤ low → grid_from bags nodes held low high ≡ None
grid_past bags nodes held low high past =
    ap (λ rs. first_uneven bags nodes (filter held (flat_map (λ r. map (λ c. (r, c)) (range_with_len 0 nodes)) rs))) (range_none low high past)

-- all rows hold the pairs of a placement
pub grid_start : (bags : Bags) (demand : PlacementValue) (chunks nodes : ℕ) → demand.chunks ≡ chunks → demand.nodes ≡ nodes → IsPlacement demand → grid_from bags nodes (holds demand) 0 chunks ≡ first_uneven bags nodes demand.pairs
grid_start bags demand chunks nodes chunks_are nodes_are is = grind (arith, rows_start)
