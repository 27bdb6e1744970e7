use Rattle.std.{proofs.Common.{◌≡◌, ◌+◌, ◌-◌, ◌++◌, map}, specs.List.{flat_map, range_with_len}}
use Rattle.node_cuts.specs.declared.side.Side.TheVariants.{Two}
use Rattle.node_cuts.proofs.side.push_twos.Given as goal

abbrev pub invariant-loop-first : goal.invariant-loop-first
invariant-loop-first l = l.sides.items ≡ l.initial.sides.items ++ flat_map (λ a. map (Two a) (range_with_len (a + 1) (l.nodes - (a + 1)))) (range_with_len 0 l.first)
