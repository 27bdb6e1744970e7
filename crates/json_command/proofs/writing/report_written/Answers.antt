use Rattle.std.proofs.Common.{◌≡◌, None, Ok, Result, ap, subst}
use Rattle.text_lines.specs.Check.{◌>>=◌}
use Rattle.command_words.specs.declared.command.JsonWhat.TheVariants as what
use Rattle.report_form.specs.Reports.{ReportValue}
use Rattle.json_values.specs.Json.{printed}
use Rattle.json_rules.specs.ReportForm.{report as report_form}
use Rattle.run_rules.{specs.{Refusals.Refusal, Tasks.{Task, Write, json_asked, read_report}}, proofs.Answered.{refused_alone, refused_behind, written_as}}
use Rattle.given_reports.specs.Read.{IsReadAs}
use Rattle.json_command.proofs.writing.report_written.Goals as goal

abbrev written : ReportValue → Result Task Refusal
written r = Ok (Write (printed ((report_form r.topology.names).json r)))

pub returns-in_ok-text-in-Spelled : goal.returns-in_ok-text-in-Spelled
returns-in_ok-text-in-Spelled c =
    let bytes = c.args.bytes.now in
    let read : read_report bytes ≡ Ok c.in-Spelled.report = subst (IsReadAs (read_report bytes)) c.in-Spelled.is c.in_ok-report.ensures in
    written_as (json_asked what.Report None bytes) _ _ (ap (λ x. x >>= written) read) c.in_ok-text-in-Spelled.ensures.printed

pub returns-in-Refused : goal.returns-in-Refused
returns-in-Refused c =
    let bytes = c.args.bytes.now in
    let refused = subst (IsReadAs (read_report bytes)) c.in-Refused.is c.in_ok-report.ensures in
    refused_alone (json_asked what.Report None bytes) c.in-Refused.answer (refused_behind (read_report bytes) written c.in-Refused.answer refused)
