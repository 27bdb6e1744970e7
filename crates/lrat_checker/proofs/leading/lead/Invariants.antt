use Rattle.std.proofs.Common.{◌≡◌, drop}
use Rattle.proof_rules.specs.{Judging.led_to, Accepting.leading}
use Rattle.lrat_checker.specs.inner.Marking.{Extends}
use Rattle.lrat_checker.proofs.leading.lead.Given as goal

abbrev pub invariant-loop-place : goal.invariant-loop-place
invariant-loop-place l = record {
  led : led_to l.table.held l.initial.marks.falses l.from (leading (drop l.from l.hints)) ≡ led_to l.table.held l.marks.falses l.place (leading (drop l.place l.hints));
  vars : l.marks.vars ≡ l.initial.marks.vars;
  grown : Extends l.initial.marks.falses l.marks.falses;
}
