use Rattle.std.proofs.Common.{◌≡◌, drop}
use Rattle.proof_rules.specs.Accepting.{hint_groups_from}
use Rattle.lrat_checker.proofs.leading.next_group.Given as goal

abbrev pub invariant-loop-place : goal.invariant-loop-place
invariant-loop-place l = hint_groups_from l.from (drop l.from l.hints) ≡ hint_groups_from l.place (drop l.place l.hints)
