use Rattle.std.proofs.Common.{ap, ◌∙◌, arith}
use Rattle.sat_core.proofs.{Jumping.{backed_within, backed_differ, lower_levels}, backjump.go_back.Goals.{then-anew, else-anew}}
use Rattle.sat_core.proofs.backjump.go_back.Goals as goal

pub add_clause-requires-clause-within : goal.add_clause-requires-clause-within
add_clause-requires-clause-within c = rw (c.back_to.ensures.back c.requires.above, c.as_slice-lits.ensures.value ∙ ap (λ l. l.lits) c.line.view_is) (backed_within c.args.core.now c.args.line.now.lits c.requires.formed c.requires.backed)

pub add_clause-requires-clause-once : goal.add_clause-requires-clause-once
add_clause-requires-clause-once c = rw (c.as_slice-lits.ensures.value ∙ ap (λ l. l.lits) c.line.view_is) (backed_differ c.args.core.now c.args.line.now.lits c.requires.backed)

pub jump-requires-clause-above : goal.jump-requires-clause-above
jump-requires-clause-above c = grind (arith, then-anew, else-anew, lower_levels)
