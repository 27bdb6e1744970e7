use Rattle.std.proofs.Common.{◌≡◌, true, false, ◌∷◌, [], ◌++◌, refl, sym, ap, ◌∙◌, subst, Contains}
use Rattle.engine_rules.specs.declared.settled.Settled.TheVariants as settled
use Rattle.engine_rules.specs.Outcomes.{RecordValue}
use Rattle.link_faults.{specs.Carrying.{is_carried, not_carried}, proofs.Recorded.kept_contains}
use Rattle.degraded_links.{specs.Keeping.{HasNoneCarried, RefutesCarried}, proofs.Keeping.{alone_with, is_running, joined, kept_with, kept_without, not_both, stops_nowhere}}
use Rattle.degraded_links.proofs.engine.CarryEngineEngine.settle.Goals as goal

pub invariant_of-self : goal.invariant_of-self
invariant_of-self g c =
    let e = c.args.self.now in
    let same : c.prepare.new.self.entries ≡ e.tried.entries = c.prepare.ensures.entries in
    record {
      none = e.none;
      alone = subst (RefutesCarried e.old.items) (sym same) e.alone;
      kept = e.kept ∙ ap (not_carried e.old.items) (sym same);
      stops = stops_nowhere (g.E.EngineView.stopped e.inner) c.prepare.new.self.stopped (is_running (g.E.EngineView.stopped e.inner) e.tried.stopped e.stops c.requires.running);
    }

pub invariant_of-self-then-carried : goal.invariant_of-self-then-carried
invariant_of-self-then-carried g c =
    let e = c.args.self.now in
    let old = e.old.items in
    let x = c.args.candidate in
    let is : is_carried old x ≡ true = sym c.carries-carried.ensures ∙ c.if-carried.true in
    let now : c.note.new.self.entries ≡ e.tried.entries ++ (x, settled.Refuted) ∷ [] = joined x settled.Refuted c.note.ensures.entries c.prepare.ensures.entries in
    record {
      none = e.none;
      alone = alone_with old e.tried.entries c.note.new.self.entries x settled.Refuted now e.alone (λ _. refl);
      kept = kept_without old e.tried.entries c.note.new.self.entries (g.E.EngineView.entries e.inner) x settled.Refuted now is e.kept;
      stops = stops_nowhere (g.E.EngineView.stopped e.inner) c.note.new.self.stopped (is_running (g.E.EngineView.stopped e.inner) e.tried.stopped e.stops c.requires.running);
    }

pub settle-requires-clause-fresh : goal.settle-requires-clause-fresh
settle-requires-clause-fresh g c =
    let e = c.args.self.now in
    λ kind found. c.requires.fresh kind (kept_contains e.old.items (c.args.candidate, kind) e.tried.entries (subst (λ (es : RecordValue). Contains es (c.args.candidate, kind)) e.kept found))

pub invariant_of-self-in-Ok : goal.invariant_of-self-in-Ok
invariant_of-self-in-Ok g c =
    let e = c.args.self.now in
    let old = e.old.items in
    let x = c.args.candidate in
    let kind = c.of.result in
    let inner = c.settle.new.self in
    let entries = c.note-in-Ok.new.self.entries in
    let other : is_carried old x ≡ false = sym c.carries-carried.ensures ∙ c.if-carried.false in
    let now : entries ≡ e.tried.entries ++ (x, kind) ∷ [] = joined x kind c.note-in-Ok.ensures.entries c.prepare.ensures.entries in
    let more : g.E.EngineView.entries inner ≡ g.E.EngineView.entries e.inner ++ (x, kind) ∷ [] = c.in-Ok.ensures.entries ∙ ap (λ k. g.E.EngineView.entries e.inner ++ (x, k) ∷ []) (sym c.of.ensures) in
    record {
      none = subst (HasNoneCarried old) (sym c.in-Ok.ensures.same.question) e.none;
      alone = alone_with old e.tried.entries entries x kind now e.alone (λ is. not_both old x other is);
      kept = kept_with old e.tried.entries entries (g.E.EngineView.entries e.inner) (g.E.EngineView.entries inner) x kind now more other e.kept;
      stops = stops_nowhere (g.E.EngineView.stopped inner) c.note-in-Ok.new.self.stopped c.in-Ok.ensures.goes_on.running;
    }

pub invariant_of-self-in-Err : goal.invariant_of-self-in-Err
invariant_of-self-in-Err g c =
    let e = c.args.self.now in
    let same : c.stop.new.self.entries ≡ e.tried.entries = c.stop.ensures.entries ∙ c.prepare.ensures.entries in
    record {
      none = subst (HasNoneCarried e.old.items) (sym c.in-Err.ensures.same.question) e.none;
      alone = subst (RefutesCarried e.old.items) (sym same) e.alone;
      kept = c.in-Err.ensures.kept ∙ e.kept ∙ ap (not_carried e.old.items) (sym same);
      stops = λ x at. c.stop.ensures.stopped ∙ sym c.in-Err.ensures.stopped ∙ at;
    }
