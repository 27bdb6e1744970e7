use Rattle.std.proofs.Common.{Ok, ap}
use Rattle.candidate_formula.specs.Formulas.{formula_for}
use Rattle.candidate_solver.specs.Questions.{asked}
use Rattle.kept_proofs.proofs.Taken.{begins_log, both, refuted_files}
use Rattle.kept_proofs.proofs.judging.take_up.Goals as goal

pub returns-clause-begins : goal.returns-clause-begins
returns-clause-begins g c = λ told.
    let begun = c.in_ok-begin.ensures.begun told in
    begins_log c.args.part c.args.candidate (c.is_refuted.ensures.stay (c.begin.ensures.told told)) c.file_name.ensures begun.others begun.begun (formula_for (asked c.args.question.now) c.args.candidate)

pub returns-clause-taken : goal.returns-clause-taken
returns-clause-taken g c = λ told e.
    let early = c.begin.ensures.told told in
    let begun = c.in_ok-begin.ensures.begun told in
    refuted_files c.args.part c.args.candidate (c.is_refuted.ensures.stay early) c.file_name.ensures begun.others begun.begun (asked c.args.question.now) (c.in_ok-refuted.ensures.has early (ap Ok c.if-not-refuted.false))

pub returns-clause-stay : goal.returns-clause-stay
returns-clause-stay g c = λ told.
    let begun = c.in_ok-begin.ensures.begun told in
    both c.args.part c.args.candidate (c.is_refuted.ensures.stay (c.begin.ensures.told told)) c.file_name.ensures begun.others begun.begun
