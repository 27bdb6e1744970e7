use Rattle.std.proofs.Common.{IfOk, subst, sym}
use Rattle.run_rules.specs.{Answers.IsAnswerAlone, Steps.replay_in}
use Rattle.report_commands.proofs.Stopped.{text_refused, text_spelled}
use Rattle.report_commands.proofs.replaying.replay_answer.Goals as goal

pub returns-in-Spelled : goal.returns-in-Spelled
returns-in-Spelled c =
    let read = text_spelled c.args.bytes.now (λ r. replay_in r c.args.asked c.args.order) _ c.in_ok-report.ensures c.in-Spelled.report c.in-Spelled.is in
    subst (λ due. IfOk c.replay_in_report.result (λ a. IsAnswerAlone due a.status a.text.items)) (sym read) c.replay_in_report.ensures

pub returns-in-Refused : goal.returns-in-Refused
returns-in-Refused c = text_refused c.args.bytes.now (λ r. replay_in r c.args.asked c.args.order) _ c.in_ok-report.ensures c.in-Refused.answer c.in-Refused.is
