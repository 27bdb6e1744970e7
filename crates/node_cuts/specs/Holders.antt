-- Where a chunk stands, and what has to come into a set by that. This project's own.
use Rattle.std.specs.{Prelude.{◌&&◌, not, Bool, ℕ, List, filter}, List.{list_any, range_with_len}}
use Rattle.schedule.specs.Placed.{PlacementValue, holds}
use Rattle.node_cuts.specs.Sides.{NodeSet}

-- the nodes that have a chunk before, and those that are to have it after
pub record HoldersValue : Type 0 where
  pub before : List ℕ
  pub after : List ℕ

-- the nodes that have the chunk, ascending
abbrev pub nodes_with : PlacementValue → ℕ → List ℕ
nodes_with p chunk = filter (λ node. holds p (chunk, node)) (range_with_len 0 p.nodes)

-- some node of the set is to have the chunk, and none has it
abbrev pub is_lacking : NodeSet → HoldersValue → Bool
is_lacking u h = list_any u h.after && not (list_any u h.before)
