use Rattle.std.proofs.Common.{◌≡◌, ◌-◌, ◌<◌, length, All}
use Rattle.decision_order.specs.inner.Orders.{IsVar}
use Rattle.decision_order.proofs.vsids.sink.Given as goal

abbrev pub invariant-loop-hole : goal.invariant-loop-hole
invariant-loop-hole l = record {
  len : length l.heap.items ≡ length l.initial.heap.items;
  places : length l.places.items ≡ length l.initial.places.items;
  hole : l.hole < length l.heap.items;
  vars : All (IsVar (length l.activity)) l.heap.items;
}

abbrev pub decreases-loop-hole : goal.decreases-loop-hole
decreases-loop-hole l = length l.heap.items - l.hole
