use Rattle.std.proofs.Common.{◌≡◌, ◌+◌, length, All}
use Rattle.decision_order.specs.inner.Orders.{IsPlace}
use Rattle.decision_order.proofs.vmtf.Queue.new.Given as goal

abbrev pub invariant-loop-index : goal.invariant-loop-index
invariant-loop-index l = record {
  earlier : length l.earlier.items ≡ l.index;
  later : length l.later.items ≡ l.index + 1;
  stamps : length l.stamps.items ≡ l.index + 1;
  before : All (IsPlace (l.vars + 1)) l.earlier.items;
  after : All (IsPlace (l.vars + 1)) l.later.items;
}
