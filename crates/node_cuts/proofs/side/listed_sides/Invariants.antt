use Rattle.std.proofs.Common.{◌≡◌, ◌++◌, map, take}
use Rattle.node_cuts.specs.inner.Listed.{complement}
use Rattle.node_cuts.proofs.side.listed_sides.Given as goal

abbrev pub invariant-loop-side : goal.invariant-loop-side
invariant-loop-side l = l.sides.items ≡ l.side-items ++ map complement (take l.side-index l.side-items)
