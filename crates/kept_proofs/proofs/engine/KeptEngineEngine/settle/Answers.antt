use Rattle.std.proofs.{Common.{◌≡◌, true, false, [], ◌∷◌, ◌++◌, Ok, refl, sym, ap, ◌∙◌}, lemmas.Option.none-some}
use Rattle.candidate_order.specs.{declared.candidate.Candidate.Candidate, Frontiers.IsSolvable}
use Rattle.candidate_formula.{specs.Formulas.formula_for, proofs.BegunFiles.begun_refl}
use Rattle.engine_rules.specs.declared.settled.Settled.{Settled, TheVariants.Refuted}
use Rattle.candidate_solver.{specs.{Kept.EngineState, Questions.asked}, proofs.Settling.{IsSettled, settled_agrees}}
use Rattle.kept_proofs.{specs.Beside.beside, proofs.{Below.{below, standing_of}, Standing.{calm, calm_below, exhausted_by, failed_there, stands_failed, stands_prepared, stands_searched, stands_taken, unsolvable_by}}}
use Rattle.kept_proofs.proofs.Moving.{agrees_behind, began_behind, began_own, failed_keeping, has_files_of, is_settled, pushed_own, same_own, searched_keeping, taken_keeping}
use Rattle.kept_proofs.proofs.engine.KeptEngineEngine.settle.Goals as goal

-- ---- where room for one more was made, or was not

pub invariant_of-self : goal.invariant_of-self
invariant_of-self g c =
    let e = c.args.self.now in
    let made = c.prepare.ensures in
    let now = stands_prepared (standing_of e) c.args.candidate c.prepare.new.self.stopped c.prepare.result made.entries c.requires.running made.running made.stopped in
    record { same_part = e.same_part; same_question = e.same_question; among = now.among; stops = now.stops; right = now.right; exhausted = now.exhausted; searches = now.searches }

pub returns-in_err-prepare-clause-same : goal.returns-in_err-prepare-clause-same
returns-in_err-prepare-clause-same g c = record { question = refl; formula = λ y. refl; suits = λ y schedule. (λ has. has, λ has. has) }

pub returns-in_err-prepare-clause-moves : goal.returns-in_err-prepare-clause-moves
returns-in_err-prepare-clause-moves g c =
    failed_keeping c.args.candidate refl refl c.prepare.ensures.entries c.requires.running c.in_err-prepare.ensures.stopped (λ t. t) (λ t. begun_refl) (λ k t has. record { formula = refl; proof = refl })

-- ---- where the files of the candidate refute it

pub invariant_of-self-in-Ok-true : goal.invariant_of-self-in-Ok-true
invariant_of-self-in-Ok-true g c =
    let e = c.args.self.now in
    let old = standing_of e in
    let is : c.take.result ≡ Ok true = c.in-Ok-true.is ∙ ap Ok c.in-Ok-true.field-0-test in
    let now = stands_taken old c.args.candidate c.note.new.self.stopped (c.note.ensures.entries ∙ ap (λ r. r ++ (c.args.candidate, Refuted) ∷ []) c.prepare.ensures.entries) (c.take.ensures.right is) (c.take.ensures.kept is) (calm old c.requires.running) in
    record { same_part = e.same_part; same_question = e.same_question; among = now.among; stops = now.stops; right = now.right; exhausted = now.exhausted; searches = now.searches }

pub returns-in-Ok-true-clause-refuted : goal.returns-in-Ok-true-clause-refuted
returns-in-Ok-true-clause-refuted g c = λ e. c.take.ensures.right (c.in-Ok-true.is ∙ ap Ok c.in-Ok-true.field-0-test)

pub returns-in-Ok-true-clause-same : goal.returns-in-Ok-true-clause-same
returns-in-Ok-true-clause-same g c = record { question = refl; formula = λ y. refl; suits = λ y schedule. (λ has. has, λ has. has) }

pub returns-in-Ok-true-clause-moves : goal.returns-in-Ok-true-clause-moves
returns-in-Ok-true-clause-moves g c =
    let took = c.take.ensures in
    taken_keeping c.args.candidate (is_settled c.args.candidate Refuted refl refl c.prepare.ensures.entries c.note.ensures.entries c.requires.running c.requires.fresh took.told took.begins) took.stay

pub returns-in-Ok-true-clause-goes_on : goal.returns-in-Ok-true-clause-goes_on
returns-in-Ok-true-clause-goes_on g c =
    let H = g.H.Shelf in
    let e = c.args.self.now in
    let x : Candidate = c.args.candidate in
    let took = c.take.ensures in
    let a : EngineState = beside e (H.tells c.args.store.now) (H.file c.args.store.now) in
    let b : EngineState = record { part = e.part; question = a.question; entries = c.note.new.self.entries; stopped = c.note.new.self.stopped; told = H.tells c.take.new.store; files = H.file c.take.new.store } in
    let settled : IsSettled a b x Refuted = is_settled x Refuted refl refl c.prepare.ensures.entries c.note.ensures.entries c.requires.running c.requires.fresh took.told took.begins in
    record {
      running = c.note.ensures.stopped ∙ c.in_ok-prepare.ensures.running ∙ c.requires.running;
      agrees = settled_agrees a b x Refuted settled c.requires.agrees (λ t. took.taken t (c.in-Ok-true.is ∙ ap Ok c.in-Ok-true.field-0-test));
    }

-- ---- where the other engine is asked

pub settle-requires-clause-within : goal.settle-requires-clause-within
settle-requires-clause-within g c = c.requires.within

pub settle-requires-clause-fresh : goal.settle-requires-clause-fresh
settle-requires-clause-fresh g c = λ kind there. c.args.self.now.among c.args.candidate kind (c.requires.fresh kind) there

pub settle-requires-clause-running : goal.settle-requires-clause-running
settle-requires-clause-running g c = calm (standing_of c.args.self.now) c.requires.running

pub settle-requires-clause-agrees : goal.settle-requires-clause-agrees
settle-requires-clause-agrees g c = λ told.
    let H = g.H.Shelf in
    let e = c.args.self.now in
    let is : c.take.result ≡ Ok false = c.in-Ok-false.is ∙ ap Ok c.in-Ok-false.field-0-test in
    agrees_behind e.part (asked e.inner.question) (H.file c.args.store.now) (below e (H.tells c.take.new.store) (H.file c.take.new.store)) e.tried.entries e.same_part refl (c.take.ensures.left told is) e.among (c.requires.agrees (c.take.ensures.told told))

pub invariant_of-self-in-Ok : goal.invariant_of-self-in-Ok
invariant_of-self-in-Ok g c =
    let e = c.args.self.now in
    let x : Candidate = c.args.candidate in
    let q = asked e.inner.question in
    let kind : Settled = c.of.result in
    let out = c.in-Ok.outcome in
    let same = c.settle.ensures.same in
    let now = stands_searched (standing_of e) x kind c.note-in-Ok.new.self.stopped same.question same.formula
    (c.in-Ok.ensures.entries ∙ ap (λ k. e.inner.tried.entries ++ (x, k) ∷ []) (sym c.of.ensures))
    (c.note-in-Ok.ensures.entries ∙ ap (λ r. r ++ (x, kind) ∷ []) c.prepare.ensures.entries) c.in-Ok.ensures.goes_on.running
    (unsolvable_by (IsSolvable q x) out kind c.of.ensures (λ r. c.in-Ok.ensures.refuted (ap Ok r)))
    (exhausted_by (formula_for q x) c.settle.new.self.log q.limits.conflicts out kind c.of.ensures (λ n u. c.in-Ok.ensures.unknown n (ap Ok u))) in
    record { same_part = c.settle.ensures.moves.same_part ∙ e.same_part; same_question = same.question ∙ e.same_question; among = now.among; stops = now.stops; right = now.right; exhausted = now.exhausted; searches = now.searches }

pub returns-in-Ok-clause-same : goal.returns-in-Ok-clause-same
returns-in-Ok-clause-same g c = record { question = c.settle.ensures.same.question; formula = c.settle.ensures.same.formula; suits = c.settle.ensures.same.suits }

pub returns-in-Ok-clause-moves : goal.returns-in-Ok-clause-moves
returns-in-Ok-clause-moves g c =
    let e = c.args.self.now in
    let x : Candidate = c.args.candidate in
    let kind : Settled = c.of.result in
    let is : c.take.result ≡ Ok false = c.in-Ok-false.is ∙ ap Ok c.in-Ok-false.field-0-test in
    let moved = c.settle.ensures.moves in
    let added = c.in-Ok.ensures.entries ∙ ap (λ k. e.inner.tried.entries ++ (x, k) ∷ []) (sym c.of.ensures) in
    searched_keeping x kind
    (is_settled x kind refl c.settle.ensures.same.question c.prepare.ensures.entries c.note-in-Ok.ensures.entries c.requires.running c.requires.fresh (λ t. c.take.ensures.told (moved.tells t))
    (λ t. began_behind x moved e.same_part (c.take.ensures.left (moved.tells t) is) (began_own x moved (pushed_own e.inner.tried.entries x kind added) (λ y at. absurd (none-some y (sym c.in-Ok.ensures.goes_on.running ∙ at)))) t))
    (λ k t has. c.take.ensures.lacks (moved.tells t) is k has)

pub returns-in-Ok-clause-goes_on : goal.returns-in-Ok-clause-goes_on
returns-in-Ok-clause-goes_on g c =
    let H = g.H.Shelf in
    let e = c.args.self.now in
    let x : Candidate = c.args.candidate in
    let end = c.settle.new.store in
    let kind : Settled = c.of.result in
    let is : c.take.result ≡ Ok false = c.in-Ok-false.is ∙ ap Ok c.in-Ok-false.field-0-test in
    let a : EngineState = beside e (H.tells c.args.store.now) (H.file c.args.store.now) in
    let b : EngineState = record { part = e.part; question = asked c.settle.new.self.question; entries = c.note-in-Ok.new.self.entries; stopped = c.note-in-Ok.new.self.stopped; told = H.tells end; files = H.file end } in
    let moved = c.settle.ensures.moves in
    let added = c.in-Ok.ensures.entries ∙ ap (λ k. e.inner.tried.entries ++ (x, k) ∷ []) (sym c.of.ensures) in
    let settled : IsSettled a b x kind = is_settled x kind refl c.settle.ensures.same.question c.prepare.ensures.entries c.note-in-Ok.ensures.entries c.requires.running c.requires.fresh (λ t. c.take.ensures.told (moved.tells t))
    (λ t. began_behind x moved e.same_part (c.take.ensures.left (moved.tells t) is) (began_own x moved (pushed_own e.inner.tried.entries x kind added) (λ y at. absurd (none-some y (sym c.in-Ok.ensures.goes_on.running ∙ at)))) t) in
    record {
      running = c.note-in-Ok.ensures.stopped ∙ c.in_ok-prepare.ensures.running ∙ c.requires.running;
      agrees = settled_agrees a b x kind settled c.requires.agrees (has_files_of e.inner.tried.entries x kind moved (moved.same_part ∙ e.same_part) moved.same_question added c.in-Ok.ensures.goes_on.agrees);
    }

pub invariant_of-self-in-Err-settle : goal.invariant_of-self-in-Err-settle
invariant_of-self-in-Err-settle g c =
    let e = c.args.self.now in
    let same = c.settle.ensures.same in
    let failed = c.in-Err-settle.ensures.stopped in
    let now = stands_failed (standing_of e) c.args.candidate c.settle.new.self.tried.stopped same.question same.formula c.in-Err-settle.ensures.kept (c.stop.ensures.entries ∙ c.prepare.ensures.entries)
    (λ y at. sym (failed_there _ c.args.candidate y failed at)) c.stop.ensures.stopped in
    record { same_part = c.settle.ensures.moves.same_part ∙ e.same_part; same_question = same.question ∙ e.same_question; among = now.among; stops = now.stops; right = now.right; exhausted = now.exhausted; searches = now.searches }

pub returns-in-Err-settle-clause-same : goal.returns-in-Err-settle-clause-same
returns-in-Err-settle-clause-same g c = record { question = c.settle.ensures.same.question; formula = c.settle.ensures.same.formula; suits = c.settle.ensures.same.suits }

pub returns-in-Err-settle-clause-moves : goal.returns-in-Err-settle-clause-moves
returns-in-Err-settle-clause-moves g c =
    let e = c.args.self.now in
    let x : Candidate = c.args.candidate in
    let is : c.take.result ≡ Ok false = c.in-Ok-false.is ∙ ap Ok c.in-Ok-false.field-0-test in
    let moved = c.settle.ensures.moves in
    let failed = c.in-Err-settle.ensures.stopped in
    failed_keeping x refl c.settle.ensures.same.question (c.stop.ensures.entries ∙ c.prepare.ensures.entries) c.requires.running c.stop.ensures.stopped (λ t. c.take.ensures.told (moved.tells t))
    (λ t. began_behind x moved e.same_part (c.take.ensures.left (moved.tells t) is) (began_own x moved (same_own x c.in-Err-settle.ensures.kept) (λ y at. sym (failed_there _ x y failed at))) t)
    (λ k t has. absurd (c.take.ensures.lacks (moved.tells t) is k has))

-- ---- where the files were not judged

pub invariant_of-self-in-Err : goal.invariant_of-self-in-Err
invariant_of-self-in-Err g c =
    let e = c.args.self.now in
    let old = standing_of e in
    let now = stands_failed old c.args.candidate e.inner.tried.stopped refl (λ y. refl) refl (c.stop-in-Err.ensures.entries ∙ c.prepare.ensures.entries) (calm_below old c.requires.running c.args.candidate) c.stop-in-Err.ensures.stopped in
    record { same_part = e.same_part; same_question = e.same_question; among = now.among; stops = now.stops; right = now.right; exhausted = now.exhausted; searches = now.searches }

pub returns-in-Err-clause-same : goal.returns-in-Err-clause-same
returns-in-Err-clause-same g c = record { question = refl; formula = λ y. refl; suits = λ y schedule. (λ has. has, λ has. has) }

pub returns-in-Err-clause-moves : goal.returns-in-Err-clause-moves
returns-in-Err-clause-moves g c =
    failed_keeping c.args.candidate refl refl (c.stop-in-Err.ensures.entries ∙ c.prepare.ensures.entries) c.requires.running c.stop-in-Err.ensures.stopped c.take.ensures.told c.take.ensures.begins (λ k t has. c.take.ensures.stay t)
