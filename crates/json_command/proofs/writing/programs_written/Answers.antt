use Rattle.std.proofs.Common.{◌≡◌, Some, Result, Ok, IfOk, sym, ap, subst}
use Rattle.text_lines.specs.Check.{◌>>=◌}
use Rattle.command_words.specs.declared.command.JsonWhat.TheVariants as what
use Rattle.run_rules.{specs.{Tasks.{Task, json_asked, json_programs_in, read_report}, Answers.IsAnswerAlone, Refusals.Refusal}, proofs.Answered.{refused_alone, refused_behind}}
use Rattle.given_reports.specs.Read.{IsReadAs}
use Rattle.json_command.proofs.writing.programs_written.Goals as goal

pub returns-in-Refused : goal.returns-in-Refused
returns-in-Refused c =
    let bytes = c.args.bytes.now in
    let asked = c.args.asked in
    let refused = subst (IsReadAs (read_report bytes)) c.in-Refused.is c.in_ok-report.ensures in
    refused_alone (json_asked what.Programs (Some asked) bytes) c.in-Refused.answer (refused_behind (read_report bytes) (λ r. json_programs_in r (Some asked)) c.in-Refused.answer refused)

pub returns-in-Spelled : goal.returns-in-Spelled
returns-in-Spelled c =
    let bytes = c.args.bytes.now in
    let asked = c.args.asked in
    let read : read_report bytes ≡ Ok c.in-Spelled.report = subst (IsReadAs (read_report bytes)) c.in-Spelled.is c.in_ok-report.ensures in
    subst (λ (due : Result Task Refusal). IfOk c.programs_in_report.result (λ a. IsAnswerAlone due a.status a.text.items))
    (sym (ap (λ report. report >>= (λ r. json_programs_in r (Some asked))) read)) c.programs_in_report.ensures
