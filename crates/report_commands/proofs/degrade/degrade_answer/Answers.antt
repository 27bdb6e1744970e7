use Rattle.std.proofs.Common.{IfOk, refl, sym, subst, ◌∙◌}
use Rattle.run_rules.specs.{Answers.IsAnswer, Tasks.degrade_asked, Steps.degrade_in}
use Rattle.report_commands.proofs.Stopped.{left_alone, text_refused, text_spelled}
use Rattle.report_commands.proofs.degrade.degrade_answer.Goals as goal

pub returns-in_err-report-clause-leaves : goal.returns-in_err-report-clause-leaves
returns-in_err-report-clause-leaves g c = λ told. left_alone c.from_residual.result (degrade_asked c.args.fault.group c.args.fault.group_word c.args.fault.width c.args.fault.width_word c.args.bytes.now) _ _ (λ name. refl)

pub returns-in-Spelled : goal.returns-in-Spelled
returns-in-Spelled g c =
    let e = c.fault_answer.ensures in
    let read = text_spelled c.args.bytes.now (λ r. degrade_in r c.args.fault.group c.args.fault.group_word c.args.fault.width c.args.fault.width_word) _ c.in_ok-report.ensures c.in-Spelled.report c.in-Spelled.is in
    let answers = subst (λ due. IfOk c.fault_answer.result (λ a. IsAnswer due (record { told = g.H.Shelf.tells c.fault_answer.new.shelf; before = g.H.Shelf.file c.args.shelf.now; after = g.H.Shelf.file c.fault_answer.new.shelf }) a.status a.text.items)) (sym read) e.answers in
    record { answers = answers; leaves = λ told. left_alone c.fault_answer.result (degrade_asked c.args.fault.group c.args.fault.group_word c.args.fault.width c.args.fault.width_word c.args.bytes.now) _ _ (e.stay told); untouched = e.untouched; last = λ is r due. e.last is r (sym read ∙ due); source = e.source; told = e.told; cause = e.cause }

pub returns-in-Refused-clause-answers : goal.returns-in-Refused-clause-answers
returns-in-Refused-clause-answers g c = text_refused c.args.bytes.now (λ r. degrade_in r c.args.fault.group c.args.fault.group_word c.args.fault.width c.args.fault.width_word) _ c.in_ok-report.ensures c.in-Refused.answer c.in-Refused.is _ (λ told name. refl)
