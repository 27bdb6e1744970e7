use Rattle.std.proofs.lemmas.Result.{IfOk-weaker}
use Rattle.report_commands.proofs.Told.{searched_anew, told_denied}
use Rattle.report_commands.proofs.degrade.judged_answer.Goals as goal

pub returns-in-Verified-clause-answers : goal.returns-in-Verified-clause-answers
returns-in-Verified-clause-answers c = λ files is. IfOk-weaker c.search_anew.result _ _ (λ a search. searched_anew c.args.report.now c.args.fault.group c.args.fault.width c.args.verdict files is a.status a.text.items c.in-Verified.is (c.requires.right c.in-Verified.is) search) c.search_anew.ensures

pub returns-in_default-clause-answers : goal.returns-in_default-clause-answers
returns-in_default-clause-answers c = λ files is. IfOk-weaker c.verdict_answer.result _ _ (λ a says. told_denied c.args.report.now c.args.fault.group c.args.fault.width c.args.verdict files is a.status a.text.items c.in_default.not-Verified says) c.verdict_answer.ensures.says
