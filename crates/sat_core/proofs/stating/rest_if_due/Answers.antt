use Rattle.std.proofs.Common.{refl, ◌∙◌}
use Rattle.sat_core.proofs.{Caused.{answered, answered_after, handed_on, no_memory_after, on_fault}, Going.still_written}
use Rattle.sat_core.proofs.stating.rest_if_due.Goals as goal

pub returns-then-not-anew : goal.returns-then-not-anew
returns-then-not-anew g c = record { written = still_written (g.met.L.Ledger.moves_refl c.args.ledger.now c.args.store.now) c.requires.can.ready.written; can = c.requires.can; vars = refl; cause = answered }

pub returns-in_err-state_all : goal.returns-in_err-state_all
returns-in_err-state_all g c = record { written = c.state_all.ensures.written; can = on_fault _ _ c.from_residual.ensures.0; vars = c.state_all.ensures.vars; cause = handed_on _ c.in_err-state_all.was c.from_residual.ensures.1 c.state_all.ensures.cause }

pub returns-in_err-rest : goal.returns-in_err-rest
returns-in_err-rest g c = record { written = c.state_all.ensures.written; can = on_fault _ _ c.from_residual-in_err-rest.ensures.0; vars = c.rest.ensures.vars ∙ c.state_all.ensures.vars; cause = no_memory_after _ c.in_ok-state_all.was c.from_residual-in_err-rest.ensures.1 c.state_all.ensures.cause }

pub returns : goal.returns
returns g c = let can = c.in_ok-state_all.ensures.can in record { written = c.state_all.ensures.written; can = record { ready = c.in_ok-rest.ensures.ready _ _ can.ready; guided = c.in_ok-rest.ensures.guided; agrees = can.agrees }; vars = c.rest.ensures.vars ∙ c.state_all.ensures.vars; cause = answered_after c.in_ok-state_all.was c.state_all.ensures.cause }
