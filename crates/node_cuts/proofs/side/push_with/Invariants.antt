use Rattle.std.{proofs.Common.{◌≡◌, ◌+◌, ◌-◌, ◌++◌, ◌≤◌, map}, specs.List.range_with_len}
use Rattle.node_cuts.specs.declared.side.Side.TheVariants.{Two}
use Rattle.node_cuts.proofs.side.push_with.Given as goal

abbrev pub invariant-loop-second : goal.invariant-loop-second
invariant-loop-second l = record {
  from : l.first + 1 ≤ l.second;
  sides : l.sides.items ≡ l.initial.sides.items ++ map (Two l.first) (range_with_len (l.first + 1) (l.second - (l.first + 1)));
}
