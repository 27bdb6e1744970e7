use Rattle.std.{proofs.Common.{◌≡◌, drop}, specs.List.list_any}
use Rattle.proof_rules.specs.Accepting.{is_made_true, without_negated}
use Rattle.lrat_checker.proofs.table.has_other_true.Given as goal

abbrev pub invariant-loop-lit : goal.invariant-loop-lit
invariant-loop-lit l = list_any (is_made_true l.marks.falses) (without_negated l.pivot l.clause) ≡ list_any (is_made_true l.marks.falses) (without_negated l.pivot (drop l.lit-index l.clause))
