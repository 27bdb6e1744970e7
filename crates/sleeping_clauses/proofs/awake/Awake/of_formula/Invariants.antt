use Rattle.std.{proofs.Common.{◌≡◌, ◌+◌, ◌≤◌, vec_capacity}, specs.List.range_with_len}
use Rattle.sleeping_clauses.proofs.awake.Awake.of_formula.Given as goal

abbrev pub invariant-loop-number : goal.invariant-loop-number
invariant-loop-number l = record {
  room : l.clauses ≤ vec_capacity l.ids;
  wide : l.clauses + 1 ≤ vec_capacity l.names;
  ids : l.ids.items ≡ range_with_len 0 l.number;
  names : l.names.items ≡ range_with_len 0 (l.number + 1);
}
