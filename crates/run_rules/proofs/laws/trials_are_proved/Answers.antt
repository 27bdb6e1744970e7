use Rattle.frontier_audit.{proofs.Audited.shelf_right, specs.declared.verdict.AuditVerdict.TheVariants.Verified}
use Rattle.run_rules.proofs.OneVerdict.{verdict_exactly}
use Rattle.run_rules.proofs.laws.trials_are_proved.Goals as goal

pub returns : goal.returns
returns c = λ n text trial. shelf_right trial.report trial.own_files trial.right.valid ((verdict_exactly trial.report trial.own_files Verified trial.right.valid).0 trial.verified)
