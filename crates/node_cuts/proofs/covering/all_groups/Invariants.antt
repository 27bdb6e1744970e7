use Rattle.std.{proofs.Common.◌≡◌, specs.List.range_with_len}
use Rattle.node_cuts.proofs.covering.all_groups.Given as goal

abbrev pub invariant-loop-number : goal.invariant-loop-number
invariant-loop-number l = l.groups.items ≡ range_with_len 0 l.number
