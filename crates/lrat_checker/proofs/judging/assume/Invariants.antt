use Rattle.std.proofs.Common.{◌≡◌, ◌≤◌, false, length, drop}
use Rattle.proof_rules.specs.Judging.{has_variable_twice}
use Rattle.lrat_checker.proofs.judging.assume.Given as goal

abbrev pub invariant-loop-left : goal.invariant-loop-left
invariant-loop-left l = record {
  within : l.left ≤ length l.lits;
  vars : l.marks.vars ≡ l.initial.marks.vars;
  falses : l.marks.falses ≡ drop l.left l.lits;
  once : has_variable_twice (drop l.left l.lits) ≡ false;
}

abbrev pub decreases-loop-left : goal.decreases-loop-left
decreases-loop-left l = l.left
