use Rattle.std.proofs.Common.{◌≡◌, ◌+◌, ◌≤◌, length, All, vec_capacity}
use Rattle.decision_order.specs.inner.Orders.{IsVar}
use Rattle.decision_order.proofs.vsids.Order.new.Given as goal

abbrev pub invariant-loop-index : goal.invariant-loop-index
invariant-loop-index l = record {
  heap_room : l.vars ≤ vec_capacity l.heap;
  places_room : l.vars + 1 ≤ vec_capacity l.places;
  activity_room : l.vars + 1 ≤ vec_capacity l.activity;
  heap : length l.heap.items ≡ l.index;
  places : length l.places.items ≡ l.index + 1;
  activity : length l.activity.items ≡ l.index + 1;
  vars : All (IsVar (l.vars + 1)) l.heap.items;
}
