use Rattle.std.proofs.Common.{◌≡◌, refl, sym, ap, ◌∙◌, subst, Ok, Err}
use Rattle.conflict_ledger.specs.Beside.{beside}
use Rattle.candidate_solver.{specs.Trying.IsSearch, proofs.Searches.{answer_cause, fault_cause, moves_as_was, same_files}}
use Rattle.candidate_solver.proofs.searching.search_checked.Goals as goal

pub returns-in-Ok-clause-search : goal.returns-in-Ok-clause-search
returns-in-Ok-clause-search g c =
    let f = c.args.formula.now in
    let limit = c.args.limit in
    let pair = c.solve.new.ledger in
    let lines = pair.second.counted.lines in
    let answer = c.in-Ok.answer in
    let is : c.solve.result ≡ Ok answer = c.in-Ok.is in
    let solved : IsSearch f pair.second.counted.limit lines answer = record {
      model = λ values e. c.solve.ensures.model values (is ∙ ap Ok e);
      refuted = λ e. record { refutes = c.solve.ensures.refuted (is ∙ ap Ok e); few = c.solve.ensures.closed (is ∙ ap Ok e) };
      spent = λ e. record { spent = c.solve.ensures.log (is ∙ ap Ok e); not_closed = c.solve.ensures.not_closed (is ∙ ap Ok e) };
      numbered = c.solve.ensures.numbered;
      short = c.solve.ensures.short;
    } in
    subst (λ ls. IsSearch f limit ls answer) (sym (c.into_log-lines.ensures ∙ ap (λ ledger. ledger.counted.lines) c.into_second.ensures.second))
    (subst (λ n. IsSearch f n lines answer) (c.solve.ensures.limit ∙ c.new-pair.ensures.limit ∙ c.requires.limit) solved)

pub returns-in-Ok-clause-agrees : goal.returns-in-Ok-clause-agrees
returns-in-Ok-clause-agrees g c =
    let now = c.solve.new.ledger.second in
    let store = c.solve.new.store in
    let lines = now.counted.lines in
    let moves = c.solve.ensures.moves in
    let first = c.new-pair.ensures.second in
    let ledger = c.args.ledger in
    same_files (beside now (g.H.Shelf.tells store) (g.H.Shelf.file store)) ledger.counted.base.now ledger.lrat ledger.partial c.into_log-lines.result lines
    (moves.same_base ∙ ap (λ l. l.counted.base.now) first) (moves.same_lrat ∙ ap (λ l. l.lrat) first) (moves.same_partial ∙ ap (λ l. l.partial) first)
    (c.into_log-lines.ensures ∙ ap (λ ledger. ledger.counted.lines) c.into_second.ensures.second) c.in-Ok.ensures.agrees

pub returns-in-Err-clause-cause : goal.returns-in-Err-clause-cause
returns-in-Err-clause-cause g c = fault_cause c.in-Err.fault c.solve.result _ _ _ c.in-Err.is (ap Err c.engine_fault.ensures) c.solve.ensures.cause

pub returns-in-Ok-clause-moves : goal.returns-in-Ok-clause-moves
returns-in-Ok-clause-moves g c = moves_as_was (rw c.new-pair.ensures.second at c.solve.ensures.moves)

pub returns-in-Err-clause-moves : goal.returns-in-Err-clause-moves
returns-in-Err-clause-moves g c = moves_as_was (rw c.new-pair.ensures.second at c.solve.ensures.moves)

pub returns-in-Ok-clause-cause : goal.returns-in-Ok-clause-cause
returns-in-Ok-clause-cause g c = answer_cause c.in-Ok.answer _ c.solve.result _ _ _ c.in-Ok.is refl c.solve.ensures.cause
