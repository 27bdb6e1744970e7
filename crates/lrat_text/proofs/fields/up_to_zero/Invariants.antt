use Rattle.std.proofs.Common.{◌≡◌, length}
use Rattle.lrat_text.{specs.Reading.up_to_zero, proofs.Listed.behind}
use Rattle.lrat_text.proofs.fields.up_to_zero.Given as goal

abbrev pub invariant-loop-token : goal.invariant-loop-token
invariant-loop-token g l = up_to_zero g.F.Field.reads l.lack l.initial.tokens ≡ behind l.fields.items (up_to_zero g.F.Field.reads l.lack l.tokens)

abbrev pub decreases-loop-token : goal.decreases-loop-token
decreases-loop-token g l = length l.tokens
