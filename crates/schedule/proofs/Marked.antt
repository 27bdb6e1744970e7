-- A placement by its table of cells: what it holds, and what a cell that is set adds.
use Rattle.std.proofs.{Common.{◌≡◌, ℕ, ◌+◌, ◌*◌, ◌<◌, Bool, true, false, ◌||◌, List, length, get_or, set, replicate, subst, arith}, lemmas.Bool.{or_left, cases_Bool, and_from, eq-eqb, both_ways}}
use Rattle.std.proofs.lemmas.{List.{get_or-set_same, get_or-set_other, get_or-replicate, get_or_read}, Nat.{mul-add-lt, same_from_place}}
use Rattle.schedule.{specs.{Placed.{PlacementValue, same_pair, holds, IsPlacement, empty_placement, with_pair}, Cells.marked}, proofs.Placing.{pair_is, placed-alike, placed-none, holds-placed, placement-placed}}

abbrev cell : ℕ → List Bool → ℕ × ℕ → Bool
cell nodes cells pair = get_or cells (pair.0 * nodes + pair.1) false

pub placement_here : (chunks nodes : ℕ) (cells : List Bool) → IsPlacement (marked chunks nodes cells)
placement_here chunks nodes cells = placement-placed chunks nodes (cell nodes cells)

pub placement_marked : (p : PlacementValue) (chunks nodes : ℕ) (cells : List Bool) → marked chunks nodes cells ≡ p → IsPlacement p
placement_marked p chunks nodes cells is = subst IsPlacement is (placement_here chunks nodes cells)

pub holds_marked : (chunks nodes : ℕ) (cells : List Bool) (chunk node : ℕ) (answer : Bool) → length cells ≡ chunks * nodes → chunk < chunks → node < nodes → answer ≡ get_or cells (chunk * nodes + node) answer → answer ≡ holds (marked chunks nodes cells) (chunk, node)
holds_marked chunks nodes cells chunk node answer size c n read = grind (arith, mul-add-lt, get_or_read, holds-placed)

cell-set : (nodes : ℕ) (cells : List Bool) (a pair : ℕ × ℕ) → a.0 * nodes + a.1 < length cells → a.1 < nodes → pair.1 < nodes → cell nodes (set cells (a.0 * nodes + a.1) true) pair ≡ (same_pair a pair || cell nodes cells pair)
cell-set nodes cells a pair inside n pn = grind (arith, pair_is a pair, get_or-set_same cells (a.0 * nodes + a.1) true false inside, or_left, same_from_place pair.0 pair.1 a.0 a.1 nodes pn n, both_ways, and_from, eq-eqb a.0 pair.0, eq-eqb a.1 pair.1, get_or-set_other cells (a.0 * nodes + a.1) (pair.0 * nodes + pair.1) true false, cases_Bool (same_pair a pair))

pub marked_set : (chunks nodes : ℕ) (cells : List Bool) (chunk node : ℕ) → length cells ≡ chunks * nodes → chunk < chunks → node < nodes → marked chunks nodes (set cells (chunk * nodes + node) true) ≡ with_pair (marked chunks nodes cells) (chunk, node)
marked_set chunks nodes cells chunk node size c n = grind (arith, placed-alike chunks nodes, cell-set nodes cells (chunk, node), mul-add-lt chunk nodes node chunks c n, holds-placed chunks nodes (cell nodes cells))

pub marked_empty : (chunks nodes : ℕ) → marked chunks nodes (replicate (chunks * nodes) false) ≡ empty_placement chunks nodes
marked_empty chunks nodes =
    placed-none chunks nodes _ (λ pair c n. get_or-replicate (chunks * nodes) (pair.0 * nodes + pair.1) false false (omega (arith, mul-add-lt pair.0 nodes pair.1 chunks c n)))
