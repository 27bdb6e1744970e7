use Rattle.std.proofs.Common.{◌≡◌, ◌==◌, ◌++◌, map, filter, take}
use Rattle.allreduce_join.specs.Joins.{join_of}
use Rattle.report_search.proofs.joining.join_each.Given as goal

abbrev pub invariant-loop-second : goal.invariant-loop-second
invariant-loop-second l = l.joined.items ≡ l.initial.joined.items ++ map (join_of l.first) (filter (λ q. q.candidate.c == l.first.candidate.c) (take l.second-index l.gather))
