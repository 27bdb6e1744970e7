use Rattle.proof_audit.specs.Proving.{is_refutation}
use Rattle.frontier_audit.{specs.declared.verdict.Reason.TheVariants.{CnfDiffers, ProofRefused}, proofs.{Beside.is_text_of, Said.{file_answers, text_denies, proof_decides}}}
use Rattle.frontier_audit.proofs.files.files_denied.Goals as goal

pub returns-in-Some-clause-beside : goal.returns-in-Some-clause-beside
returns-in-Some-clause-beside g c =
    let text = c.in_ok-text.ensures in
    text_denies c.args.part c.args.asked.now c.args.candidate c.in_ok-formula.ensures c.file_name-name.ensures
    (file_answers (g.H.Shelf.tells c.formula_file.new.shelf) (g.H.Shelf.file c.args.shelf.now) c.file_name-name.result (is_text_of c.in_ok-formula.formula) c.in_ok-text.text CnfDiffers c.args.candidate c.denial_for.ensures text.exact text.some) c.in-Some.denial c.in-Some.is

pub returns-clause-beside : goal.returns-clause-beside
returns-clause-beside g c =
    let f = c.in_ok-formula.formula in
    let x = c.args.candidate in
    let text = c.in_ok-text.ensures in
    let proof = c.in_ok-proof.ensures in
    proof_decides c.args.part c.args.asked.now x c.in_ok-formula.ensures c.file_name-name.ensures
    (file_answers (g.H.Shelf.tells c.formula_file.new.shelf) (g.H.Shelf.file c.args.shelf.now) c.file_name-name.result (is_text_of f) c.in_ok-text.text CnfDiffers x c.denial_for.ensures text.exact text.some) c.in_default.is proof.told
    (λ t. text.stay (proof.told t)) c.file_name-name-2.ensures
    (file_answers (g.H.Shelf.tells c.refutation_file.new.shelf) (g.H.Shelf.file c.formula_file.new.shelf) c.file_name-name-2.result (is_refutation f) c.in_ok-proof.proof ProofRefused x c.denial_for-2.ensures proof.exact proof.some)
