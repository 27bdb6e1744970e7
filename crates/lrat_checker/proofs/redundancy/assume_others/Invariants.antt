use Rattle.std.proofs.Common.{◌≡◌, drop}
use Rattle.proof_rules.specs.{Judging.assumed, Accepting.without_negated}
use Rattle.lrat_checker.specs.inner.Marking.{Extends}
use Rattle.lrat_checker.proofs.redundancy.assume_others.Given as goal

abbrev pub invariant-loop-lit : goal.invariant-loop-lit
invariant-loop-lit l = record {
  same : assumed l.initial.marks.falses (without_negated l.pivot l.clause) ≡ assumed l.marks.falses (without_negated l.pivot (drop l.lit-index l.clause));
  vars : l.marks.vars ≡ l.initial.marks.vars;
  grown : Extends l.initial.marks.falses l.marks.falses;
}
