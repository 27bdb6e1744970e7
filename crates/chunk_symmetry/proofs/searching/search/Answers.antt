use Rattle.std.proofs.Common.{◌≡◌, Ok, sym, ap, ◌∙◌, subst}
use Rattle.candidate_solver.specs.Trying.{IsSearch}
use Rattle.chunk_symmetry.proofs.searching.search.Goals as goal

pub returns-in-Ok : goal.returns-in-Ok
returns-in-Ok c =
    let f = c.args.formula.now in
    let said = c.in-Ok.answer in
    let pair = c.solve.new.ledger in
    let lines = pair.second.lines in
    let limit : pair.second.limit ≡ c.args.limit = c.in-Ok.ensures.limit ∙ c.new-pair.ensures.limit ∙ c.new-second.ensures.limit in
    let kept : c.into_log.result ≡ lines = c.into_log.ensures ∙ ap (λ ledger. ledger.lines) c.into_second.ensures.second in
    let search : IsSearch f pair.second.limit lines said = record {
      model = λ values e. c.in-Ok.ensures.model values (ap Ok e);
      refuted = λ e. record { refutes = c.in-Ok.ensures.refuted (ap Ok e); few = c.in-Ok.ensures.closed (ap Ok e) };
      spent = λ e. record { spent = c.in-Ok.ensures.log (ap Ok e); not_closed = c.in-Ok.ensures.not_closed (ap Ok e) };
      numbered = c.in-Ok.ensures.numbered;
      short = c.in-Ok.ensures.short;
    } in
    subst (λ ls. IsSearch f c.args.limit ls said) (sym kept) (subst (λ n. IsSearch f n lines said) limit search)
