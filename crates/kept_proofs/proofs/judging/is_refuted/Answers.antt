use Rattle.std.proofs.Common.{Ok, sym, subst, ap, ◌∙◌}
use Rattle.outer_ports.specs.declared.proof_name.FileKind.TheVariants.{Lrat}
use Rattle.cnf_formula.specs.Formulas.{Satisfiable}
use Rattle.candidate_formula.{specs.Files.file_of, proofs.Exact.formula_exact}
use Rattle.candidate_solver.specs.Questions.{asked}
use Rattle.kept_proofs.proofs.Judged.{has_both, no_text, no_proof, stood}
use Rattle.kept_proofs.proofs.judging.is_refuted.Goals as goal

pub returns-then-not-text-clause-lacks : goal.returns-then-not-text-clause-lacks
returns-then-not-text-clause-lacks g c = λ told e.
    no_text c.args.part (asked c.args.question.now) (g.H.Shelf.file c.args.store.now) c.args.candidate c.in_ok-formula.ensures c.formula_file.result (rw c.file_name-name.ensures at (c.formula_file.ensures.exact told)) (sym c.stands.ensures ∙ c.in_ok-text.was ∙ ap Ok c.if-not-text.true)

pub returns-clause-has : goal.returns-clause-has
returns-clause-has g c = λ told e.
    let early = c.refutation_file.ensures.told told in
    let here = c.formula_file.ensures.stay early (file_of Lrat c.args.part c.args.candidate) in
    has_both c.args.part (asked c.args.question.now) (g.H.Shelf.file c.args.store.now) c.args.candidate c.in_ok-formula.ensures c.formula_file.result c.refutation_file.result
    (rw c.file_name-name.ensures at (c.formula_file.ensures.exact early)) (rw (c.file_name-name-2.ensures, here) at (c.refutation_file.ensures.exact told))
    (sym c.stands.ensures ∙ c.in_ok-text.was ∙ ap Ok c.if-not-text.false) (sym c.stands-2.ensures ∙ e)

pub returns-clause-lacks : goal.returns-clause-lacks
returns-clause-lacks g c = λ told e.
    let here = c.formula_file.ensures.stay (c.refutation_file.ensures.told told) (file_of Lrat c.args.part c.args.candidate) in
    no_proof c.args.part (asked c.args.question.now) (g.H.Shelf.file c.args.store.now) c.args.candidate c.in_ok-formula.ensures c.refutation_file.result (rw (c.file_name-name-2.ensures, here) at (c.refutation_file.ensures.exact told)) (sym c.stands-2.ensures ∙ e)

pub returns-clause-right : goal.returns-clause-right
returns-clause-right g c = λ e solvable.
    let question = c.args.question.now in
    c.refutation_file.ensures.unsatisfiable (stood c.refutation_file.result (sym c.stands-2.ensures ∙ e))
    (subst Satisfiable (sym c.in_ok-formula.ensures) ((formula_exact (asked question) c.args.candidate question.small c.requires).1 solvable))
