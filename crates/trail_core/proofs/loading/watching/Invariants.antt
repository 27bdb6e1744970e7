use Rattle.std.proofs.Common.{◌≡◌, ◌+◌, ◌*◌, length, map, take}
use Rattle.trail_core.specs.inner.Begun.{front_row, IsBegun}
use Rattle.trail_core.proofs.loading.watching.Given as goal

abbrev pub invariant-loop-place : goal.invariant-loop-place
invariant-loop-place l = record {
  len : length l.lists.lists ≡ 2 * l.vars + 2;
  rooms : l.lists.rooms ≡ l.counts.items;
  uses : l.lists.uses ≡ l.counts.items;
  begun : IsBegun (map front_row (take l.place l.clauses)) l.lists l.short.items;
}
