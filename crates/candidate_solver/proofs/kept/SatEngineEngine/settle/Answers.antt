use Rattle.std.proofs.Common.{◌≡◌, [], ◌∷◌, ◌++◌, refl, sym, ap, ◌∙◌, subst}
use Rattle.candidate_order.specs.{declared.candidate.Candidate.Candidate, Frontiers.QuestionValue}
use Rattle.candidate_order.specs.declared.outcome.Outcome.TheVariants as outcome
use Rattle.candidate_formula.{specs.Formulas.{formula_for, Suits}, proofs.{Exact.formula_exact, BegunFiles.begun_refl}}
use Rattle.candidate_solver.{specs.{Questions.asked, Beside.beside, Kept.{EngineState, HasFiles}}, proofs.{Settling.{IsSettled, settled_moves, settled_agrees, failed_moves}, Noting.{proved_by, not_solvable}}}
use Rattle.engine_rules.specs.{declared.settled.Settled.Settled, Outcomes.SpentOn}
use Rattle.candidate_solver.proofs.kept.SatEngineEngine.settle.Goals as goal

pub returns-in_err-prepare-clause-moves : goal.returns-in_err-prepare-clause-moves
returns-in_err-prepare-clause-moves g c =
    let T = g.H.Shelf.tells in
    let F = g.H.Shelf.file in
    let store = c.args.store.now in
    let e = c.args.self.now in
    failed_moves (beside e (T store) (F store)) (record { part = e.part; question = asked e.question; entries = c.prepare.new.self.entries; stopped = c.prepare.new.self.stopped; told = T store; files = F store }) c.args.candidate refl refl c.prepare.ensures.entries c.requires.running c.in_err-prepare.ensures.stopped (λ t. t) (λ t. begun_refl)

pub returns-in-Err-clause-moves : goal.returns-in-Err-clause-moves
returns-in-Err-clause-moves g c =
    let T = g.H.Shelf.tells in
    let F = g.H.Shelf.file in
    let store = c.args.store.now in
    let e = c.args.self.now in
    let end = c.try_candidate.new.store in
    failed_moves (beside e (T store) (F store)) (record { part = e.part; question = asked e.question; entries = c.stop.new.self.entries; stopped = c.stop.new.self.stopped; told = T end; files = F end }) c.args.candidate refl refl (c.stop.ensures.entries ∙ c.prepare.ensures.entries) c.requires.running c.stop.ensures.stopped c.try_candidate.ensures.told c.try_candidate.ensures.begins

-- making room leaves the record as it was
pub invariant_of-self-in-Ok-1 : goal.invariant_of-self-in-Ok-1
invariant_of-self-in-Ok-1 g c =
    let e = c.args.self.now in
    rw c.prepare.ensures.entries (record { named = e.named; right = e.right; exhausted = e.exhausted; proved = e.proved })

pub note-requires-clause-proved : goal.note-requires-clause-proved
note-requires-clause-proved g c =
    let e = c.args.self.now in
    let q : QuestionValue = asked e.question in
    let attempt = c.in-Ok.field-0 in
    proved_by q c.args.candidate (formula_for q c.args.candidate) attempt.lines attempt.outcome c.of.result c.of.ensures c.in-Ok.ensures.outcome

pub returns-in-Ok-clause-solved : goal.returns-in-Ok-clause-solved
returns-in-Ok-clause-solved g c = λ schedule e.
    let same : c.in-Ok.field-0.outcome ≡ outcome.Solved schedule = cc in
    (c.in-Ok.ensures.outcome.solved schedule same, subst (λ p. Suits (asked p) c.args.candidate schedule) (sym c.note.ensures.question) (c.in-Ok.ensures.outcome.suits schedule same))

pub returns-in-Ok-clause-refuted : goal.returns-in-Ok-clause-refuted
returns-in-Ok-clause-refuted g c = λ e.
    let engine = c.args.self.now in
    let q : QuestionValue = asked engine.question in
    let attempt = c.in-Ok.field-0 in
    let same : attempt.outcome ≡ outcome.Refuted = cc in
    not_solvable q c.args.candidate (formula_for q c.args.candidate) attempt.lines (formula_exact q c.args.candidate engine.question.small c.requires.within).1 (c.in-Ok.ensures.outcome.refuted same)

pub returns-in-Ok-clause-unknown : goal.returns-in-Ok-clause-unknown
returns-in-Ok-clause-unknown g c = λ n e.
    let engine = c.args.self.now in
    let q : QuestionValue = asked engine.question in
    let same : c.in-Ok.field-0.outcome ≡ outcome.Unknown n = cc in
    let u = c.in-Ok.ensures.outcome.unknown n same in
    (u.0, subst (λ ls. SpentOn (formula_for q c.args.candidate) ls n) (sym c.note.ensures.log) u.1)

pub returns-in-Ok-clause-same : goal.returns-in-Ok-clause-same
returns-in-Ok-clause-same g c = record {
  question = ap asked c.note.ensures.question;
  formula = λ x. ap (λ p. formula_for (asked p) x) c.note.ensures.question;
  suits = λ x schedule. (subst (λ p. Suits (asked p) x schedule) c.note.ensures.question, subst (λ p. Suits (asked p) x schedule) (sym c.note.ensures.question));
}

pub returns-in-Ok-clause-moves : goal.returns-in-Ok-clause-moves
returns-in-Ok-clause-moves g c =
    let T = g.H.Shelf.tells in
    let F = g.H.Shelf.file in
    let store = c.args.store.now in
    let end = c.try_candidate.new.store in
    let entry : Candidate × Settled = (c.args.candidate, c.of.result) in
    settled_moves (beside c.args.self.now (T store) (F store)) (beside c.note.new.self (T end) (F end)) c.args.candidate c.of.result (record {
      part = c.note.ensures.part;
      question = ap asked c.note.ensures.question;
      entries = c.note.ensures.entries ∙ ap (λ r. r ++ entry ∷ []) c.prepare.ensures.entries;
      running = c.requires.running;
      new = c.requires.fresh;
      tells = c.try_candidate.ensures.told;
      begins = c.try_candidate.ensures.begins;
    })

pub returns-in-Ok-clause-goes_on : goal.returns-in-Ok-clause-goes_on
returns-in-Ok-clause-goes_on g c =
    let T = g.H.Shelf.tells in
    let F = g.H.Shelf.file in
    let store = c.args.store.now in
    let end = c.try_candidate.new.store in
    let a : EngineState = beside c.args.self.now (T store) (F store) in
    let b : EngineState = beside c.note.new.self (T end) (F end) in
    let entry : Candidate × Settled = (c.args.candidate, c.of.result) in
    let s : IsSettled a b c.args.candidate c.of.result = record {
      part = c.note.ensures.part;
      question = ap asked c.note.ensures.question;
      entries = c.note.ensures.entries ∙ ap (λ r. r ++ entry ∷ []) c.prepare.ensures.entries;
      running = c.requires.running;
      new = c.requires.fresh;
      tells = c.try_candidate.ensures.told;
      begins = c.try_candidate.ensures.begins;
    } in
    record {
      running = c.note.ensures.stopped ∙ (c.in_ok-prepare.ensures.running ∙ c.requires.running);
      agrees = settled_agrees a b c.args.candidate c.of.result s c.requires.agrees
          (λ t. subst (λ kind. HasFiles a.part a.question b.files (c.args.candidate, kind)) (sym c.of.ensures) (c.in-Ok.ensures.files t));
    }

pub invariant_of-self : goal.invariant_of-self
invariant_of-self g c =
    let e = c.args.self.now in
    rw c.prepare.ensures.entries (record { named = e.named; right = e.right; exhausted = e.exhausted; proved = e.proved })

pub invariant_of-self-in-Err : goal.invariant_of-self-in-Err
invariant_of-self-in-Err g c =
    let e = c.args.self.now in
    rw (c.stop.ensures.entries, c.prepare.ensures.entries) (record { named = e.named; right = e.right; exhausted = e.exhausted; proved = e.proved })
