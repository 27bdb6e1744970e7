use Rattle.report_commands.proofs.Told.{judged}
use Rattle.report_commands.proofs.degrade.judged.Goals as goal

pub returns-clause-judged : goal.returns-clause-judged
returns-clause-judged g c = judged c.args.report.now c.in_ok-audit.field-0 _ c.requires.valid c.in_ok-audit.ensures.exact c.in_ok-audit.ensures.some c.audit.ensures.stay
