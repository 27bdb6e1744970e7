use Rattle.std.proofs.Common.{◌∙◌, refl}
use Rattle.sat_core.proofs.{Caused.{after, answered, handed_on, no_memory, on_fault, unmoved}, Going.{advanced_can, same_trail, still_written, written_then}}
use Rattle.sat_core.proofs.stating.state_all.Goals as goal

pub returns-in_err-go_to_bottom : goal.returns-in_err-go_to_bottom
returns-in_err-go_to_bottom g c = record { written = still_written (g.met.L.Ledger.moves_refl c.args.ledger.now c.args.store.now) c.requires.can.ready.written; can = on_fault _ _ c.from_residual.ensures.0; vars = c.go_to_bottom.ensures.vars; cause = no_memory _ c.from_residual.ensures.1 }

pub returns-in_err-stated : goal.returns-in_err-stated
returns-in_err-stated g c = record { written = still_written (g.met.L.Ledger.moves_refl c.args.ledger.now c.args.store.now) c.requires.can.ready.written; can = on_fault _ _ c.from_residual-in_err-stated.ensures.0; vars = c.go_to_bottom.ensures.vars; cause = no_memory _ c.from_residual-in_err-stated.ensures.1 }

pub loop-place-init : goal.loop-place-init
loop-place-init g c = let low = c.go_to_bottom.ensures in record { written = still_written (g.met.L.Ledger.moves_refl c.args.ledger.now c.args.store.now) c.requires.can.ready.written; faults = refl; can = advanced_can c.requires.can low.vars low.clauses low.decider; same = same_trail c.go_to_bottom.new.core; stated = c.in_ok-stated.ensures }

pub returns-in_err-state : goal.returns-in_err-state
returns-in_err-state g c = let i = c.loop-place.invariant in let one = c.state.ensures in record { written = written_then (g.met.L.Ledger.moves_trans _ _ _ _ _ _) i.written one.written; can = on_fault _ _ c.from_residual-in_err-state.ensures.0; vars = one.same.vars ∙ i.same.vars ∙ c.go_to_bottom.ensures.vars; cause = after i.faults (handed_on _ c.in_err-state.was c.from_residual-in_err-state.ensures.1 one.cause) }

pub loop-place-preserved : goal.loop-place-preserved
loop-place-preserved g c = let i = c.loop-place.invariant in let one = c.state.ensures in record { written = written_then (g.met.L.Ledger.moves_trans _ _ _ _ _ _) i.written one.written; faults = unmoved c.in_ok-state.was one.cause ∙ i.faults; can = c.in_ok-state.ensures.can; same = record { vars = one.same.vars ∙ i.same.vars; trail = one.same.trail ∙ i.same.trail; limits = one.same.limits ∙ i.same.limits }; stated = c.in_ok-state.ensures.stated }

pub returns : goal.returns
returns g c = let i = c.loop-place.invariant in record { written = i.written; can = i.can; vars = i.same.vars ∙ c.go_to_bottom.ensures.vars; cause = after i.faults answered }
