use Rattle.std.proofs.Common.{◌-◌, ◌≤◌, length}
use Rattle.lrat_text.{specs.inner.Holding.IsClear, proofs.Passing.IsPassed}
use Rattle.lrat_text.proofs.holding.answer_of.Given as goal

abbrev pub invariant-loop-line : goal.invariant-loop-line
invariant-loop-line l = record {
  passed : IsPassed l.finished l.place l.bytes l.taken;
  ordered : l.taken ≤ l.searched;
  within : l.searched ≤ length l.bytes;
  clear : IsClear l.bytes l.taken l.searched;
}

abbrev pub decreases-loop-line : goal.decreases-loop-line
decreases-loop-line l = length l.bytes - l.taken
