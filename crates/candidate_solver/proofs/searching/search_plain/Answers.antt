use Rattle.std.proofs.Common.{◌≡◌, refl, sym, ap, ◌∙◌, subst, Ok, Err}
use Rattle.candidate_solver.{specs.Trying.IsSearch, proofs.Searches.{answer_cause, fault_cause, moves_as_was}}
use Rattle.candidate_solver.proofs.searching.search_plain.Goals as goal

pub returns-in-Ok-clause-search : goal.returns-in-Ok-clause-search
returns-in-Ok-clause-search g c =
    let f = c.args.formula.now in
    let now = c.solve.new.ledger.counted in
    let answer = c.in-Ok.answer in
    let is : c.solve.result ≡ Ok answer = c.in-Ok.is in
    let solved : IsSearch f now.limit now.lines answer = record {
      model = λ values e. c.solve.ensures.model values (is ∙ ap Ok e);
      refuted = λ e. record { refutes = c.solve.ensures.refuted (is ∙ ap Ok e); few = c.solve.ensures.closed (is ∙ ap Ok e) };
      spent = λ e. record { spent = c.solve.ensures.log (is ∙ ap Ok e); not_closed = c.solve.ensures.not_closed (is ∙ ap Ok e) };
      numbered = c.solve.ensures.numbered;
      short = c.solve.ensures.short;
    } in
    subst (λ ls. IsSearch f c.args.ledger.counted.limit ls answer) (sym c.into_log-lines.ensures) (subst (λ n. IsSearch f n now.lines answer) c.solve.ensures.limit solved)

pub returns-in-Ok-clause-moves : goal.returns-in-Ok-clause-moves
returns-in-Ok-clause-moves g c = moves_as_was c.solve.ensures.moves

pub returns-in-Err-clause-moves : goal.returns-in-Err-clause-moves
returns-in-Err-clause-moves g c = moves_as_was c.solve.ensures.moves

pub returns-in-Ok-clause-cause : goal.returns-in-Ok-clause-cause
returns-in-Ok-clause-cause g c = answer_cause c.in-Ok.answer _ c.solve.result _ _ _ c.in-Ok.is refl c.solve.ensures.cause

pub returns-in-Err-clause-cause : goal.returns-in-Err-clause-cause
returns-in-Err-clause-cause g c = fault_cause c.in-Err.fault c.solve.result _ _ _ c.in-Err.is (ap Err c.engine_fault.ensures) c.solve.ensures.cause
