use Rattle.std.proofs.Common.{◌≡◌, ◌≤◌, length, map, take, All, vec_capacity}
use Rattle.trail_core.{specs.inner.{Begun.front_row, Stored.row_of}, proofs.Storing.{joined, Lies}}
use Rattle.trail_core.proofs.store.ClauseStore.of_clauses.Given as goal

abbrev pub invariant-loop-place : goal.invariant-loop-place
invariant-loop-place l = record {
  capacity : length l.clauses ≤ vec_capacity l.headers;
  start : l.start ≡ length (joined (take l.place l.clauses));
  rows : map (row_of (joined l.clauses)) l.headers.items ≡ map front_row (take l.place l.clauses);
  lie : All (Lies (joined l.clauses)) l.headers.items;
}
