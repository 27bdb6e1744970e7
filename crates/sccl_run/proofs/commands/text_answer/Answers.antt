use Rattle.std.proofs.{Common.{◌<◌, IsTrue, Ok, IfNone, length, refl, subst}, lemmas.Result.IfOk-weaker}
use Rattle.run_rules.specs.{declared.status.Status.TheVariants.TooLong, Answers.{FilesValue, IsAnswer}, Commands.{IsOneOf, reads_source}, Ends.answers_of, Refusals.refused_at, Tasks.{limit, task_of}}
use Rattle.run_rules.proofs.{Answered.refused_answers, Ends.command_ends}
use Rattle.sccl_run.{specs.inner.Answering.due_for, proofs.Dues.long_due}
use Rattle.sccl_run.proofs.commands.text_answer.Goals as goal

pub returns-in-Some-clause-ends : goal.returns-in-Some-clause-ends
returns-in-Some-clause-ends g c =
    let command = c.args.command.now in let bytes = c.deref.result.now in
    let files : FilesValue = record { told = g.H.Shelf.tells c.command_answer.new.shelf; before = g.H.Shelf.file c.args.shelf.now; after = g.H.Shelf.file c.command_answer.new.shelf } in
    IfOk-weaker c.command_answer.result (λ a. IsAnswer (task_of command bytes) files a.status a.text.items) (λ a. IsOneOf (answers_of command) a.status)
    (λ a answer. command_ends command bytes files a.status a.text.items answer) c.command_answer.ensures.answers

pub returns-in_ok-too_long-in-None-clause-answers :
    goal.returns-in_ok-too_long-in-None-clause-answers
returns-in_ok-too_long-in-None-clause-answers g c = λ came some none.
    let command = c.args.command.now in let reads : IsTrue (reads_source (Ok command)) = subst (λ text. IfNone text (IsTrue (reads_source (Ok command)))) c.in-None.is c.requires.long in
    let long = subst (λ text. IfNone text (limit < length came)) c.in-None.is none in
    refused_answers (due_for command came) (refused_at TooLong 0 limit) c.in_ok-too_long-in-None.field-0.status c.in_ok-too_long-in-None.field-0.text.items
    (long_due command came reads long) c.in_ok-too_long-in-None.ensures _ (λ told name. refl)
