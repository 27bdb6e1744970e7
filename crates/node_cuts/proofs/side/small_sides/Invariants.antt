use Rattle.std.{proofs.Common.{◌≡◌, map}, specs.List.range_with_len}
use Rattle.node_cuts.specs.declared.side.Side.TheVariants.{One}
use Rattle.node_cuts.proofs.side.small_sides.Given as goal

abbrev pub invariant-loop-node : goal.invariant-loop-node
invariant-loop-node l = l.sides.items ≡ map One (range_with_len 0 l.node)
