use Rattle.std.proofs.Common.{ap, ◌∙◌}
use Rattle.serde_json.specs.View.{view}
use Rattle.json_values.proofs.Plain.{shown_is}
use Rattle.json_rules.specs.{Answer.report_of_json, ReportJson.report_json}
use Rattle.json_reports.proofs.Built.{plain_report, report_back}
use Rattle.json_reports.proofs.report_writing.report_json.Goals as goal

pub returns : goal.returns
returns c =
    let r = c.args.report.now in
    let made = c.in_ok-report_value.ensures in
    let shown = shown_is (view c.in_ok-report_value.field-0) (report_json r) c.in_ok-out.out.items c.push.new.self.items made.json (plain_report r made.limits) c.in_ok-out.ensures.text c.in_ok-push.ensures.items in
    record { printed = shown; read_back = ap report_of_json shown ∙ report_back r made.limits }
