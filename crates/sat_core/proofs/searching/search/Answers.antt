use Rattle.std.proofs.{Common.{◌≡◌, length, refl, ◌∙◌, arith}, lemmas.Result.IfOk-from_err}
use Rattle.sat_core.proofs.{Caused.{after, answered, answered_after, handed_on, unmoved}, Going.{advanced_can, still_written, written_then}, Measure.{conflict_leaves_less, decision_leaves_less}}
use Rattle.sleeping_clauses.specs.Sleeping.{sleeping}
use Rattle.sat_core.proofs.searching.search.Goals as goal

pub loop-conflict-init : goal.loop-conflict-init
loop-conflict-init g c = record { written = still_written (g.met.L.Ledger.moves_refl c.args.ledger.now c.args.store.now) c.requires.can.ready.written; faults = refl; can = c.requires.can; vars = refl }

pub at_conflict-requires : goal.at_conflict-requires
at_conflict-requires g c = let step = c.advance.ensures in record { can = advanced_can c.loop-conflict.invariant.can step.vars step.clauses step.decider; conflict = step.conflict c.in-Conflict.conflict c.in-Conflict.is }

pub returns-in_err-at_conflict-in-Conflict : goal.returns-in_err-at_conflict-in-Conflict
returns-in_err-at_conflict-in-Conflict g c = let i = c.loop-conflict.invariant in let turn = c.at_conflict.ensures in record { written = written_then (g.met.L.Ledger.moves_trans _ _ _ _ _ _) i.written turn.written; vars = turn.vars ∙ c.advance.ensures.vars ∙ i.vars; ended = IfOk-from_err _ _ c.from_residual.ensures.0; cause = after i.faults (handed_on _ c.in_err-at_conflict-in-Conflict.was c.from_residual.ensures.1 turn.cause) }

pub loop-conflict-preserved-in-Goes : goal.loop-conflict-preserved-in-Goes
loop-conflict-preserved-in-Goes g c = let i = c.loop-conflict.invariant in let turn = c.at_conflict.ensures in record { written = written_then (g.met.L.Ledger.moves_trans _ _ _ _ _ _) i.written turn.written; faults = unmoved c.in_ok-at_conflict-in-Conflict.was turn.cause ∙ i.faults; can = (rw c.in-Goes.is at c.in_ok-at_conflict-in-Conflict.ensures.turned).0; vars = turn.vars ∙ c.advance.ensures.vars ∙ i.vars }

pub loop-conflict-smaller-in-Goes : goal.loop-conflict-smaller-in-Goes
loop-conflict-smaller-in-Goes g c = let V = g.L.LedgerView in let old = c.loop-conflict in let new = c.at_conflict.new in let turned = rw c.in-Goes.is at c.in_ok-at_conflict-in-Conflict.ensures.turned in let limit : V.limit new.ledger ≡ V.limit old.ledger = c.at_conflict.ensures.written.limit in let vars : new.core.vars ≡ old.core.vars = c.at_conflict.ensures.vars ∙ c.advance.ensures.vars in let within = g.met.L.LedgerView.within new.ledger in rw (limit, vars) (conflict_leaves_less (V.limit old.ledger) (V.spent old.ledger) (V.spent new.ledger) (sleeping old.guide.sleepers) (sleeping new.guide.sleepers) old.core.vars (length old.core.trail) (length new.core.trail) turned.1 (omega (arith, within, limit)) turned.0.guided.few)

pub returns-in-Refuted : goal.returns-in-Refuted
returns-in-Refuted g c = let i = c.loop-conflict.invariant in let turn = c.at_conflict.ensures in record { written = written_then (g.met.L.Ledger.moves_trans _ _ _ _ _ _) i.written turn.written; vars = turn.vars ∙ c.advance.ensures.vars ∙ i.vars; ended = rw c.in-Refuted.is at c.in_ok-at_conflict-in-Conflict.ensures.turned; cause = after i.faults (answered_after c.in_ok-at_conflict-in-Conflict.was turn.cause) }

pub returns-in-Spent : goal.returns-in-Spent
returns-in-Spent g c = let i = c.loop-conflict.invariant in let turn = c.at_conflict.ensures in record { written = written_then (g.met.L.Ledger.moves_trans _ _ _ _ _ _) i.written turn.written; vars = turn.vars ∙ c.advance.ensures.vars ∙ i.vars; ended = rw c.in-Spent.is at c.in_ok-at_conflict-in-Conflict.ensures.turned; cause = after i.faults (answered_after c.in_ok-at_conflict-in-Conflict.was turn.cause) }

pub loop-conflict-preserved : goal.loop-conflict-preserved
loop-conflict-preserved g c = let i = c.loop-conflict.invariant in let step = c.advance.ensures in record { written = i.written; faults = i.faults; can = advanced_can i.can step.vars step.clauses step.decider; vars = step.vars ∙ i.vars }

pub loop-conflict-smaller : goal.loop-conflict-smaller
loop-conflict-smaller g c = let old = c.loop-conflict in let step = c.advance.ensures in let few = step.few c.in-Decided.is in rw step.vars (decision_leaves_less (g.L.LedgerView.limit old.ledger) (g.L.LedgerView.spent old.ledger) (sleeping old.guide.sleepers) old.core.vars (length old.core.trail) (length c.advance.new.core.trail) (step.longer c.in-Decided.is) (omega (arith, few, step.vars)))

pub returns-in-Total : goal.returns-in-Total
returns-in-Total g c = let i = c.loop-conflict.invariant in let step = c.advance.ensures in record { written = i.written; vars = step.vars ∙ i.vars; ended = (advanced_can i.can step.vars step.clauses step.decider, step.total c.in-Total.is); cause = after i.faults answered }
