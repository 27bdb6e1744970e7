use Rattle.std.proofs.{Common.{◌≡◌, true, false, ◌∷◌, ◌++◌, [], refl, sym, ap, ◌∙◌, subst}, lemmas.{Bool.false≢true, Option.{none-some, same_Some}}}
use Rattle.candidate_order.specs.{declared.candidate.Candidate.Candidate, Frontiers.QuestionValue}
use Rattle.engine_rules.specs.declared.settled.Settled.TheVariants as settled
use Rattle.node_cuts.specs.Cutting.{is_cut}
use Rattle.cut_bounds.{specs.Laws.cut_refuted, proofs.Noting.{refutes_more, runs_within, still_new, uncut_cut, uncut_more, within_more}}
use Rattle.cut_bounds.proofs.engine.CutEngineEngine.settle.Goals as goal

pub invariant_of-self : goal.invariant_of-self
invariant_of-self g c =
    let e = c.args.self.now in
    let same = c.prepare.ensures.entries in
    record {
      tabled = e.tabled;
      some = e.some;
      within = rw same e.within;
      kept = rw same e.kept;
      stops = λ y at. absurd (none-some y (sym (runs_within (g.E.EngineView.stopped e.inner) e.tried.stopped e.stops c.requires.running) ∙ at));
      uncut = e.uncut;
      refutes = rw same e.refutes;
    }

pub invariant_of-self-then-cut : goal.invariant_of-self-then-cut
invariant_of-self-then-cut g c =
    let e = c.args.self.now in
    let view = g.E.EngineView in
    let q : QuestionValue = view.question e.inner in
    let x : Candidate = c.args.candidate in
    let cut : is_cut e.sets q x ≡ true = sym c.refutes-cut.ensures ∙ c.if-cut.true in
    let noted = c.note.ensures.entries in
    let same = c.prepare.ensures.entries in
    record {
      tabled = e.tabled;
      some = e.some;
      within = rw (noted, same) (within_more q e.tried.entries x settled.Refuted c.requires.within e.within);
      kept = rw (noted, same) (e.kept ∙ sym (uncut_cut e.sets q e.tried.entries x settled.Refuted cut));
      stops = λ y at. absurd (none-some y (sym (runs_within (view.stopped e.inner) e.tried.stopped e.stops c.requires.running) ∙ at));
      uncut = e.uncut;
      refutes = rw (noted, same) (refutes_more e.sets q e.tried.entries x settled.Refuted (λ _. refl) e.refutes);
    }

pub returns-then-cut-clause-refuted : goal.returns-then-cut-clause-refuted
returns-then-cut-clause-refuted g c = λ _.
    let e = c.args.self.now in
    cut_refuted e.sets (g.E.EngineView.question e.inner) c.args.candidate (g.met.E.EngineView.copies e.inner) (sym c.refutes-cut.ensures ∙ c.if-cut.true)

pub settle-requires-clause-fresh : goal.settle-requires-clause-fresh
settle-requires-clause-fresh g c =
    let e = c.args.self.now in
    let view = g.E.EngineView in
    still_new e.sets (view.question e.inner) e.tried.entries (view.entries e.inner) c.args.candidate e.kept c.requires.fresh

pub invariant_of-self-in-Ok : goal.invariant_of-self-in-Ok
invariant_of-self-in-Ok g c =
    let e = c.args.self.now in
    let view = g.E.EngineView in
    let q : QuestionValue = view.question e.inner in
    let x : Candidate = c.args.candidate in
    let kind = c.of.result in
    let entries = e.tried.entries in
    let none : is_cut e.sets q x ≡ false = sym c.refutes-cut.ensures ∙ c.if-cut.false in
    let asked = c.settle.ensures.same.question in
    let noted = c.note-in-Ok.ensures.entries in
    let same = c.prepare.ensures.entries in
    let running = c.in-Ok.ensures.goes_on.running in
    record {
      tabled = rw asked e.tabled;
      some = rw asked e.some;
      within = rw (noted, same, asked) (within_more q entries x kind c.requires.within e.within);
      kept = c.in-Ok.ensures.entries ∙ rw (noted, same, asked, ← c.of.ensures) (ap (λ es. es ++ (x, kind) ∷ []) e.kept ∙ sym (uncut_more e.sets q entries x kind none));
      stops = λ y at. absurd (none-some y (sym running ∙ at));
      uncut = λ y at. absurd (none-some y (sym running ∙ at));
      refutes = rw (noted, same, asked) (refutes_more e.sets q entries x kind (λ cut. absurd (false≢true (sym none ∙ cut))) e.refutes);
    }

pub invariant_of-self-in-Err : goal.invariant_of-self-in-Err
invariant_of-self-in-Err g c =
    let e = c.args.self.now in
    let q : QuestionValue = g.E.EngineView.question e.inner in
    let x : Candidate = c.args.candidate in
    let none : is_cut e.sets q x ≡ false = sym c.refutes-cut.ensures ∙ c.if-cut.false in
    let asked = c.settle.ensures.same.question in
    let stopped = c.stop.ensures.entries in
    let same = c.prepare.ensures.entries in
    record {
      tabled = rw asked e.tabled;
      some = rw asked e.some;
      within = rw (stopped, same, asked) e.within;
      kept = c.in-Err.ensures.kept ∙ rw (stopped, same, asked) e.kept;
      stops = λ y at. c.stop.ensures.stopped ∙ sym c.in-Err.ensures.stopped ∙ at;
      uncut = λ y at. rw asked (subst (λ (z : Candidate). is_cut e.sets q z ≡ false) (same_Some x y (sym c.in-Err.ensures.stopped ∙ at)) none);
      refutes = rw (stopped, same, asked) e.refutes;
    }
