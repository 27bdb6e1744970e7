-- Pairs by rows and then by columns: which stand in a grid, and that they stand there in order.
use Rattle.std.{proofs.{Common.{◌≡◌, ℕ, zero, suc, ◌+◌, ◌<◌, ◌≤◌, true, List, [], ◌∷◌, map, inl, inr, sym, arith}, lemmas.Bool.{Decides.nat_tests, or_cases}}, specs.List.{list_any, flat_map, range_with_len, AllByRecursion}}
use Rattle.schedule.specs.{Failing.pair_before, Placed.{PlacementValue, IsPlacement, same_pair}}
use Rattle.schedule.proofs.{Placing.{pair_is, pair_itself, in_rows}, First.{Among, InOrder, OneWay, InOrder-append, InOrder-filter, any_among, each_weaker, each_append}}

pub pairs_one_way : OneWay pair_before
pairs_one_way a b there back = grind (arith, nat_tests)

-- what a test for the pair finds is the pair
pub among_from_any : (pair : ℕ × ℕ) (xs : List (ℕ × ℕ)) → list_any (same_pair pair) xs ≡ true → Among pair xs
among_from_any pair [] found = absurd cc
among_from_any pair (x ∷ xs) found = elim (or_cases _ _ found) [ inl here ↦ inl (sym (pair_is pair x here)) | inr later ↦ inr (among_from_any pair xs later) ]

pub any_from_among : (pair : ℕ × ℕ) (xs : List (ℕ × ℕ)) → Among pair xs → list_any (same_pair pair) xs ≡ true
any_from_among pair xs among = any_among (same_pair pair) pair xs among (pair_itself pair)

-- a pair of one of so many rows from one on, and of one of so many columns
pub record IsCell (low rows columns : ℕ) (pair : ℕ × ℕ) : Type 0 where
  pub from : low ≤ pair.0
  pub to : pair.0 < low + rows
  pub column : pair.1 < columns

abbrev pub grid : ℕ → ℕ → ℕ → List (ℕ × ℕ)
grid low rows columns = flat_map (λ row. map (λ column. (row, column)) (range_with_len 0 columns)) (range_with_len low rows)

pub in_grid : (low rows columns : ℕ) (pair : ℕ × ℕ) → IsCell low rows columns pair → Among pair (grid low rows columns)
in_grid low rows columns (row, column) is = among_from_any (row, column) (grid low rows columns) (in_rows row column columns low rows is.column is.from is.to)

row_cells : (number from count columns : ℕ) → from + count ≤ columns → AllByRecursion (IsCell number 1 columns) (map (λ column. (number, column)) (range_with_len from count))
row_cells number from zero columns fits = tt
row_cells number from (suc count) columns fits = grind (arith, row_cells number (from + 1) count columns (omega arith))

pub grid_cells : (low rows columns : ℕ) → AllByRecursion (IsCell low rows columns) (grid low rows columns)
grid_cells low zero columns = tt
grid_cells low (suc rows) columns = grind (arith, each_append, each_weaker, row_cells, grid_cells (low + 1) rows columns)

column_after : (row column from count : ℕ) → column < from → AllByRecursion (λ pair. pair_before (row, column) pair ≡ true) (map (λ c. (row, c)) (range_with_len from count))
column_after row column from zero below = tt
column_after row column from (suc count) below = grind (arith, column_after row column (from + 1) count (omega arith))

row_order : (row from count : ℕ) → InOrder pair_before (map (λ column. (row, column)) (range_with_len from count))
row_order row from zero = tt
row_order row from (suc count) = (column_after row from (from + 1) count (omega arith), row_order row (from + 1) count)

pub grid_order : (low rows columns : ℕ) → InOrder pair_before (grid low rows columns)
grid_order low zero columns = tt
grid_order low (suc rows) columns = grind (arith, InOrder-append, row_order, each_weaker, grid_cells, row_cells, grid_order (low + 1) rows columns)

-- the pairs of a placement stand in order
pub placement_order : (p : PlacementValue) → IsPlacement p → InOrder pair_before p.pairs
placement_order p is = grind (arith, InOrder-filter, grid_order)
