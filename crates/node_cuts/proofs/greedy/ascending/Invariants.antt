use Rattle.std.{proofs.Common.{◌≡◌, ◌==◌, filter}, specs.List.{list_any, range_with_len}}
use Rattle.node_cuts.proofs.greedy.ascending.Given as goal

abbrev pub invariant-loop-number : goal.invariant-loop-number
invariant-loop-number l = l.groups.items ≡ filter (λ group. list_any (λ other. other == group) l.numbers) (range_with_len 0 l.number)
