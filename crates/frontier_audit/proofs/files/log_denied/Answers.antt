use Rattle.proof_audit.specs.Proving.{is_spent_log}
use Rattle.frontier_audit.{specs.declared.verdict.Reason.TheVariants.PartialRefused, proofs.Said.{file_answers, log_decides}}
use Rattle.frontier_audit.proofs.files.log_denied.Goals as goal

pub returns-clause-beside : goal.returns-clause-beside
returns-clause-beside g c =
    let log = c.in_ok-log.ensures in
    log_decides c.args.part c.args.asked.now c.args.unknown.now c.candidate-candidate.ensures c.conflicts.ensures c.in_ok-formula.ensures c.file_name-name.ensures
    (file_answers (g.H.Shelf.tells c.log_file.new.shelf) (g.H.Shelf.file c.args.shelf.now) c.file_name-name.result (is_spent_log c.in_ok-formula.formula c.conflicts.result) c.in_ok-log.log PartialRefused c.candidate-candidate.result c.denial_for.ensures log.exact log.some)
