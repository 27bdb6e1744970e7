-- Collectives that are given: which chunks stand at which nodes before and after. This project's own.
use Rattle.std.specs.Prelude.{◌≡◌, ℕ, ◌*◌, ◌%◌, ◌≤◌, Bool}
use Rattle.schedule.specs.Placed.{PlacementValue, IsPlacement, holds, placed}

-- so many chunks at the chunk count 1, and the pairs of these chunks and the nodes that hold them before and have to hold them after
pub record PatternValue : Type 0 where
  pub base : ℕ
  pub before : PlacementValue
  pub after : PlacementValue

-- a placement of so many chunks at so many nodes
pub record IsAmong (chunks nodes : ℕ) (p : PlacementValue) : Type 0 where
  pub placement : IsPlacement p
  pub of_chunks : p.chunks ≡ chunks
  pub of_nodes : p.nodes ≡ nodes

-- 1 to 16 chunks, and two placements of these chunks at so many nodes
pub record IsPattern (nodes : ℕ) (p : PatternValue) : Type 0 where
  pub some : 1 ≤ p.base
  pub few : p.base ≤ 16
  pub before : IsPlacement p.before
  pub before_chunks : p.before.chunks ≡ p.base
  pub before_nodes : p.before.nodes ≡ nodes
  pub after : IsPlacement p.after
  pub after_chunks : p.after.chunks ≡ p.base
  pub after_nodes : p.after.nodes ≡ nodes

-- chunk g of copy k of the pattern is the chunk numbered k * base + g, and stands where g stands
abbrev pub in_copies : ℕ → PlacementValue → ℕ × ℕ → Bool
in_copies base p pair = holds p (pair.0 % base, pair.1)

-- so many copies of a placement of base chunks
abbrev pub copied : ℕ → ℕ → ℕ → PlacementValue → PlacementValue
copied base c nodes p = placed (base * c) nodes (in_copies base p)
