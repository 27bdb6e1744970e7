use Rattle.std.proofs.Common.{sym, subst, arith}
use Rattle.sat_core.{specs.inner.Stating.AreStated, proofs.{Caused.{answered, answered_after, no_memory, no_memory_after, of_ledger, on_fault}, Going.{ready_at, same_trail, still_written, written_to}}}
use Rattle.sat_core.proofs.stating.state.Goals as goal

pub returns-then-not-room : goal.returns-then-not-room
returns-then-not-room g c = record { written = still_written (g.met.L.Ledger.moves_refl c.args.ledger.now c.args.store.now) c.requires.can.ready.written; can = c.requires.can; same = same_trail c.args.core.now; stated = c.requires.stated; cause = answered }

pub line_of-requires-clause-stated : goal.line_of-requires-clause-stated
line_of-requires-clause-stated g c = subst (AreStated c.args.core.now.clauses) (sym c.deref.ensures.value) c.requires.stated

pub returns-in_err-line : goal.returns-in_err-line
returns-in_err-line g c = record { written = still_written (g.met.L.Ledger.moves_refl c.args.ledger.now c.args.store.now) c.requires.can.ready.written; can = on_fault _ _ c.from_residual.ensures.0; same = same_trail c.args.core.now; stated = on_fault _ _ c.from_residual.ensures.0; cause = no_memory _ c.from_residual.ensures.1 }

pub returns-in_default : goal.returns-in_default
returns-in_default g c = let can = c.requires.can in record { written = still_written (g.met.L.Ledger.moves_refl c.args.ledger.now c.args.store.now) can.ready.written; can = record { ready = c.line_of.ensures.ready _ _ can.ready; guided = c.in_ok-line.ensures.guided; agrees = can.agrees }; same = same_trail c.args.core.now; stated = c.requires.stated; cause = answered }

pub returns-in_err-learn : goal.returns-in_err-learn
returns-in_err-learn g c = let kept = c.in_err-learn.ensures.kept in record { written = written_to _ c.learn.ensures.moves c.learn.ensures.base c.learn.ensures.limit (omega (arith, kept.1)) kept.0 c.requires.can.ready.written; can = on_fault _ _ c.from_residual-in_err-learn.ensures.0; same = same_trail c.args.core.now; stated = on_fault _ _ c.from_residual-in_err-learn.ensures.0; cause = of_ledger _ c.in_err-learn.was c.from_residual-in_err-learn.ensures.1 c.learn.ensures.cause }

pub returns-in_err-hold : goal.returns-in_err-hold
returns-in_err-hold g c = let states = rw c.in-Some.is at c.in_ok-line.ensures.line in record { written = written_to _ c.learn.ensures.moves c.learn.ensures.base c.learn.ensures.limit (omega (arith, c.in_ok-learn.ensures.spent)) c.in_ok-learn.ensures.lines (states _ _ c.requires.can.ready).written; can = on_fault _ _ c.from_residual-in_err-hold.ensures.0; same = c.hold.ensures.same; stated = on_fault _ _ c.from_residual-in_err-hold.ensures.0; cause = no_memory_after _ c.in_ok-learn.was c.from_residual-in_err-hold.ensures.1 c.learn.ensures.cause }

pub returns : goal.returns
returns g c = let ready = c.requires.can.ready in let states = rw c.in-Some.is at c.in_ok-line.ensures.line in let stating = states _ _ ready in record { written = written_to _ c.learn.ensures.moves c.learn.ensures.base c.learn.ensures.limit (omega (arith, c.in_ok-learn.ensures.spent)) c.in_ok-learn.ensures.lines stating.written; can = record { ready = ready_at g.L.LedgerView _ c.learn.ensures.base c.in_ok-learn.ensures.lines (c.in_ok-hold.ensures.ready _ _ (c.line_of.ensures.ready _ _ ready) stating); guided = c.in_ok-hold.ensures.guided; agrees = c.in_ok-learn.ensures.agrees }; same = c.hold.ensures.same; stated = c.in_ok-hold.ensures.stated; cause = answered_after c.in_ok-learn.was c.learn.ensures.cause }
