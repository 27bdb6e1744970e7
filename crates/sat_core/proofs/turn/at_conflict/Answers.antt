use Rattle.std.proofs.{Common.{Ok, ◌≡◌, ◌<◌, length, refl, sym, ap, ◌∙◌, subst, inl, inr, arith, vec_len, get_or, false}, lemmas.{Bool.eqb-true, List.nil_from_length, Result.IfOk-from_err}}
use Rattle.cnf_formula.specs.Formulas.{IsClause}
use Rattle.sleeping_clauses.specs.Sleeping.{sleeping}
use Rattle.sat_core.{specs.{inner.Guided.IsGuided, Ready.IsReady}, proofs.{Caused.{after, answered, answered_after, handed_on, no_memory, no_memory_after, of_ledger, unmoved}, Ending.{closed_few, no_room}}}
use Rattle.sat_core.proofs.{Going.{ready_at, still_written, written_then, written_to}, Turning.{guided_more, none_by, not_empty, turn_about, turn_above, turn_accepted, turn_backed, turn_fresh, turn_over, turn_refuted, turn_written}}
use Rattle.sat_core.proofs.turn.at_conflict.Goals as goal

pub returns-in_err-line : goal.returns-in_err-line
returns-in_err-line g c = record { written = still_written (g.met.L.Ledger.moves_refl c.args.ledger.now c.args.store.now) c.requires.can.ready.written; vars = refl; turned = IfOk-from_err _ _ c.from_residual.ensures.0; cause = no_memory _ c.from_residual.ensures.1 }

pub close-requires-clause-implied : goal.close-requires-clause-implied
close-requires-clause-implied g c = turn_accepted (c.in_ok-line.ensures.turn _ _ c.requires.can.ready)

pub returns-in_err-close : goal.returns-in_err-close
returns-in_err-close g c = let closed = c.close.ensures in record { written = written_to _ closed.moves closed.base closed.limit (omega (arith, closed.spent)) c.in_err-close.ensures.kept c.requires.can.ready.written; vars = refl; turned = IfOk-from_err _ _ c.from_residual-in_err-close.ensures.0; cause = of_ledger _ c.in_err-close.was c.from_residual-in_err-close.ensures.1 closed.cause }

pub returns-then-is_empty : goal.returns-then-is_empty
returns-then-is_empty g c =
    let V = g.L.LedgerView in
    let old = c.args.ledger.now in
    let closed = c.close.ensures in
    let are = c.in_ok-close.ensures.lines in
    let t = c.in_ok-line.ensures.turn _ _ c.requires.can.ready in
    let none = nil_from_length c.in_ok-line.line.lits (sym (c.line.inside.lits.ok.0 ∙ ap (λ l. length l.lits) c.line.view_is) ∙ eqb-true (vec_len c.line.inside.lits) 0 (sym c.is_empty.ensures ∙ c.if-is_empty.true)) in
    let few = closed_few (V.base old) (V.lines old) (V.lines c.close.new.self) c.in_ok-line.line (V.spent old) (V.limit old) c.requires.can.ready.fresh (g.met.L.LedgerView.charged old) (g.met.L.LedgerView.within old) are in
    record { written = written_to _ closed.moves closed.base closed.limit (omega (arith, closed.spent)) are (turn_written t); vars = refl; turned = record { refutes = rw (closed.base, are) (turn_refuted t none); few = omega (arith, few, closed.limit); agrees = c.in_ok-close.ensures.agrees }; cause = answered_after c.in_ok-close.was closed.cause }

pub wake_due-requires : goal.wake_due-requires
wake_due-requires g c = let guided = c.in_ok-line.ensures.guided in let some = not_empty {n = vec_len c.line.inside.lits} c.in_ok-line.line.lits c.is_empty.ensures c.if-is_empty.false (c.line.inside.lits.ok.0 ∙ ap (λ l. length l.lits) c.line.view_is) in record { above = turn_above (c.in_ok-line.ensures.turn _ _ c.requires.can.ready) some; decider = guided.decider; vars = guided.sleepers; listed = guided.listed }

pub returns-in_err-woken : goal.returns-in_err-woken
returns-in_err-woken g c = record { written = still_written (g.met.L.Ledger.moves_refl c.args.ledger.now c.args.store.now) c.requires.can.ready.written; vars = c.wake_due.ensures.vars; turned = IfOk-from_err _ _ c.from_residual-in_err-woken.ensures.0; cause = no_memory _ c.from_residual-in_err-woken.ensures.1 }

pub returns-then-woken : goal.returns-then-woken
returns-then-woken g c = let can = c.requires.can in let guided = c.in_ok-line.ensures.guided in let woken = c.in_ok-woken.ensures in let is = ap Ok c.if-woken.true in record { written = still_written (g.met.L.Ledger.moves_refl c.args.ledger.now c.args.store.now) can.ready.written; vars = woken.vars; turned = (record { ready = woken.ready is _ _ (c.in_ok-line.ensures.turn _ _ can.ready).ready; guided = guided_more c.args.core.now _ _ guided.rested (woken.decider ∙ guided.decider) (woken.listed is) (woken.same ∙ guided.sleepers) (omega (arith, woken.fewer is, guided.few)) woken.vars; agrees = can.agrees }, inr (refl, omega (arith, woken.fewer is, ap (λ s. sleeping s) c.line_of_conflict.ensures.sleepers))); cause = answered }

pub returns-then-not-room : goal.returns-then-not-room
returns-then-not-room g c = let can = c.requires.can in let woken = c.in_ok-woken.ensures in let some = not_empty {n = vec_len c.line.inside.lits} c.in_ok-line.line.lits c.is_empty.ensures c.if-is_empty.false (c.line.inside.lits.ok.0 ∙ ap (λ l. length l.lits) c.line.view_is) in record { written = still_written (g.met.L.Ledger.moves_refl c.args.ledger.now c.args.store.now) can.ready.written; vars = woken.vars; turned = record { all = no_room c.if-not-room.true c.room.ensures (g.met.L.LedgerView.within c.args.ledger.now); over = turn_over (c.in_ok-line.ensures.turn _ _ can.ready) some (woken.rest (ap Ok c.if-woken.false)); agrees = can.agrees }; cause = answered }

pub subset_of-requires : goal.subset_of-requires
subset_of-requires g c = let guide = c.line_of_conflict.new.guide in let some = not_empty {n = vec_len c.line.inside.lits} c.in_ok-line.line.lits c.is_empty.ensures c.if-is_empty.false (c.line.inside.lits.ok.0 ∙ ap (λ l. length l.lits) c.line.view_is) in subst (IsClause guide.sleepers.vars) (sym (c.deref.ensures.value ∙ ap (λ l. l.lits) c.line.view_is)) (turn_about (c.in_ok-line.ensures.turn _ _ c.requires.can.ready) some guide.sleepers.vars c.in_ok-line.ensures.guided.sleepers)

pub wake-requires : goal.wake-requires
wake-requires g c = let guided = c.in_ok-line.ensures.guided in let same = c.subset_of.ensures.same in let found = c.in-Some.ensures.found in record { within = subst (λ s. c.in-Some.place < length s.clauses) (sym same) found.0; asleep = ap (λ s. get_or s.asleep c.in-Some.place false) same ∙ found.1; decider = guided.decider; vars = ap (λ s. s.vars) same ∙ guided.sleepers; listed = guided.listed }

pub returns-in_err-wake : goal.returns-in_err-wake
returns-in_err-wake g c = record { written = still_written (g.met.L.Ledger.moves_refl c.args.ledger.now c.args.store.now) c.requires.can.ready.written; vars = c.wake.ensures.vars; turned = IfOk-from_err _ _ c.from_residual-in_err-wake.ensures.0; cause = no_memory _ c.from_residual-in_err-wake.ensures.1 }

pub returns-in-Some : goal.returns-in-Some
returns-in-Some g c = let can = c.requires.can in let guide = c.line_of_conflict.new.guide in let guided = c.in_ok-line.ensures.guided in let woken = c.in_ok-wake.ensures in let same = c.subset_of.ensures.same in let few : sleeping c.subset_of.new.self ≡ sleeping guide.sleepers = ap (λ s. sleeping s) same in record { written = still_written (g.met.L.Ledger.moves_refl c.args.ledger.now c.args.store.now) can.ready.written; vars = woken.vars; turned = (record { ready = woken.ready _ _ (subst (IsReady _ _ c.args.core.now guide.awake) (sym same) (c.in_ok-line.ensures.turn _ _ can.ready).ready); guided = guided_more c.args.core.now _ _ guided.rested (woken.decider ∙ guided.decider) woken.listed (woken.same ∙ ap (λ s. s.vars) same ∙ guided.sleepers) (omega (arith, woken.fewer, few, guided.few)) woken.vars; agrees = can.agrees }, inr (refl, omega (arith, woken.fewer, few, ap (λ s. sleeping s) c.line_of_conflict.ensures.sleepers))); cause = answered }

pub learn-requires-clause-implied : goal.learn-requires-clause-implied
learn-requires-clause-implied g c = turn_accepted (c.in_ok-line.ensures.turn _ _ c.requires.can.ready)

pub learn-requires-clause-fresh : goal.learn-requires-clause-fresh
learn-requires-clause-fresh g c = turn_fresh (c.in_ok-line.ensures.turn _ _ c.requires.can.ready) (not_empty {n = vec_len c.line.inside.lits} c.in_ok-line.line.lits c.is_empty.ensures c.if-is_empty.false (c.line.inside.lits.ok.0 ∙ ap (λ l. length l.lits) c.line.view_is)) (none_by c.line_of_conflict.new.guide.sleepers _ c.in_ok-line.line.lits (c.deref.ensures.value ∙ ap (λ l. l.lits) c.line.view_is) c.in_default.ensures.found)

pub returns-in_err-learn : goal.returns-in_err-learn
returns-in_err-learn g c = let learned = c.learn.ensures in let kept = c.in_err-learn.ensures.kept in record { written = written_to _ learned.moves learned.base learned.limit (omega (arith, kept.1)) kept.0 c.requires.can.ready.written; vars = refl; turned = IfOk-from_err _ _ c.from_residual-in_err-learn.ensures.0; cause = of_ledger _ c.in_err-learn.was c.from_residual-in_err-learn.ensures.1 learned.cause }

pub go_on-requires : goal.go_on-requires
go_on-requires g c = let guide = c.line_of_conflict.new.guide in let t = c.in_ok-line.ensures.turn _ _ c.requires.can.ready in let some = not_empty {n = vec_len c.line.inside.lits} c.in_ok-line.line.lits c.is_empty.ensures c.if-is_empty.false (c.line.inside.lits.ok.0 ∙ ap (λ l. length l.lits) c.line.view_is) in record { formed = c.requires.conflict.formed; backed = turn_backed t some; above = turn_above t some; guided = subst (λ s. IsGuided c.args.core.now (record guide { sleepers = s })) (sym c.subset_of.ensures.same) c.in_ok-line.ensures.guided }

pub returns-in_err-anew : goal.returns-in_err-anew
returns-in_err-anew g c = let t = c.in_ok-line.ensures.turn _ _ c.requires.can.ready in let learned = c.learn.ensures in let added = c.in_ok-learn.ensures in record { written = written_to _ learned.moves learned.base learned.limit (omega (arith, added.spent)) added.lines (turn_written t); vars = c.go_on.ensures.vars; turned = IfOk-from_err _ _ c.from_residual-in_err-anew.ensures.0; cause = no_memory_after _ c.in_ok-learn.was c.from_residual-in_err-anew.ensures.1 learned.cause }

pub rest_if_due-requires : goal.rest_if_due-requires
rest_if_due-requires g c =
    let t = c.in_ok-line.ensures.turn _ _ c.requires.can.ready in
    let fresh = turn_fresh t (not_empty {n = vec_len c.line.inside.lits} c.in_ok-line.line.lits c.is_empty.ensures c.if-is_empty.false (c.line.inside.lits.ok.0 ∙ ap (λ l. length l.lits) c.line.view_is)) (none_by c.line_of_conflict.new.guide.sleepers _ c.in_ok-line.line.lits (c.deref.ensures.value ∙ ap (λ l. l.lits) c.line.view_is) c.in_default.ensures.found) in
    let ready = subst (IsReady _ _ c.args.core.now c.line_of_conflict.new.guide.awake) (sym c.subset_of.ensures.same) t.ready in
    record { can = record { ready = ready_at g.L.LedgerView _ c.learn.ensures.base c.in_ok-learn.ensures.lines (c.in_ok-anew.ensures.ready _ _ ready (turn_written t) fresh t.named.id); guided = c.in_ok-anew.ensures.guided; agrees = c.in_ok-learn.ensures.agrees } }

pub returns-in_err-rest_if_due : goal.returns-in_err-rest_if_due
returns-in_err-rest_if_due g c = let t = c.in_ok-line.ensures.turn _ _ c.requires.can.ready in let learned = c.learn.ensures in let added = c.in_ok-learn.ensures in let rested = c.rest_if_due.ensures in record { written = written_then (g.met.L.Ledger.moves_trans _ _ _ _ _ _) (written_to _ learned.moves learned.base learned.limit (omega (arith, added.spent)) added.lines (turn_written t)) rested.written; vars = rested.vars ∙ c.go_on.ensures.vars; turned = IfOk-from_err _ _ c.from_residual-in_err-rest_if_due.ensures.0; cause = after (unmoved c.in_ok-learn.was learned.cause) (handed_on _ c.in_err-rest_if_due.was c.from_residual-in_err-rest_if_due.ensures.1 rested.cause) }

pub returns : goal.returns
returns g c = let t = c.in_ok-line.ensures.turn _ _ c.requires.can.ready in let learned = c.learn.ensures in let added = c.in_ok-learn.ensures in let rested = c.rest_if_due.ensures in record { written = written_then (g.met.L.Ledger.moves_trans _ _ _ _ _ _) (written_to _ learned.moves learned.base learned.limit (omega (arith, added.spent)) added.lines (turn_written t)) rested.written; vars = rested.vars ∙ c.go_on.ensures.vars; turned = (c.in_ok-rest_if_due.ensures.can, inl (omega (arith, added.spent, rested.written.spent))); cause = after (unmoved c.in_ok-learn.was learned.cause) (answered_after c.in_ok-rest_if_due.was rested.cause) }
