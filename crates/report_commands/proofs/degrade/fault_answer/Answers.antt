use Rattle.std.proofs.Common.{◌≡◌, Ok, Err, IfOk, refl, sym, subst, ◌∙◌}
use Rattle.run_rules.{specs.{Answers.IsAnswer, Read.IsSearchableAs, Tasks.Degrade, Steps.degrade_in}, proofs.Answered.refused_alone}
use Rattle.report_commands.{specs.inner.Faults.refused_first, proofs.Taken.{can_degrade, refused_due}}
use Rattle.report_commands.proofs.degrade.fault_answer.Goals as goal

pub returns-in-Some-clause-answers : goal.returns-in-Some-clause-answers
returns-in-Some-clause-answers g c =
    let r = c.args.report.now in
    let x = c.args.fault in
    let refused = subst (IsSearchableAs (refused_first r x.group x.group_word x.width x.width_word)) c.in-Some.is c.in_ok-answer.ensures.refuses in
    refused_alone (degrade_in r x.group x.group_word x.width x.width_word) c.in-Some.answer (refused_due r x.group x.group_word x.width x.width_word c.in-Some.answer refused) _ (λ told name. refl)

pub returns-in-None-clause-answers : goal.returns-in-None-clause-answers
returns-in-None-clause-answers g c =
    let r = c.args.report.now in
    let x = c.args.fault in
    let can = subst (IsSearchableAs (refused_first r x.group x.group_word x.width x.width_word)) c.in-None.is c.in_ok-answer.ensures.refuses in
    subst (λ due. IfOk c.audited_answer.result (λ a. IsAnswer due (record { told = g.H.Shelf.tells c.audited_answer.new.shelf; before = g.H.Shelf.file c.args.shelf.now; after = g.H.Shelf.file c.audited_answer.new.shelf }) a.status a.text.items))
    (sym (can_degrade r x.group x.group_word x.width x.width_word can)) c.audited_answer.ensures.answers

pub returns-in-None-clause-last : goal.returns-in-None-clause-last
returns-in-None-clause-last g c = λ failed refusal due.
    let r = c.args.report.now in
    let x = c.args.fault in
    let can = subst (IsSearchableAs (refused_first r x.group x.group_word x.width x.width_word)) c.in-None.is c.in_ok-answer.ensures.refuses in
    let impossible : Ok (Degrade r x.group x.width) ≡ Err refusal = sym (can_degrade r x.group x.group_word x.width x.width_word can) ∙ due in
    absurd (cc)
