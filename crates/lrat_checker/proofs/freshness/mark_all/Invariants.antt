use Rattle.std.proofs.Common.{◌≡◌, ◌≤◌, length, drop}
use Rattle.lrat_checker.proofs.freshness.mark_all.Given as goal

abbrev pub invariant-loop-left : goal.invariant-loop-left
invariant-loop-left l = record {
  within : l.left ≤ length l.lits;
  vars : l.marks.vars ≡ l.initial.marks.vars;
  falses : l.marks.falses ≡ drop l.left l.lits;
}

abbrev pub decreases-loop-left : goal.decreases-loop-left
decreases-loop-left l = l.left
