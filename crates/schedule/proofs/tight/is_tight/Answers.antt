use Rattle.std.proofs.{Common.{sym, ◌∙◌}, lemmas.Bool.false≢true}
use Rattle.schedule.proofs.Wasting.{tight_moves}
use Rattle.schedule.proofs.tight.is_tight.Goals as goal

pub returns-else-moves : goal.returns-else-moves
returns-else-moves c = (λ e. absurd (false≢true (sym c.if-moves.false ∙ e)), λ tight. c.in_ok-moves.ensures ∙ tight_moves c.args.pre.now c.args.schedule.now tight)
