use Rattle.std.proofs.Common.{◌≡◌, ◌≤◌, ◌*◌, Some, length, ap, ◌∙◌, arith, rules}
use Rattle.report_form.specs.Spelling.{report_text}
use Rattle.frontier_report.proofs.Onward.{lines_of_short}
use Rattle.json_values.proofs.Standing.{stands_for}
use Rattle.json_rules.specs.ReportJson.{report_text_in}
use Rattle.json_reports.proofs.Short.{report_text_short}
use Rattle.json_exchange.proofs.report_reading.report_from_json.Goals as goal

pub read_report-requires : goal.read_report-requires
read_report-requires c =
    let short : length c.in-Ok.text.items ≤ 2000 * length c.args.bytes.now = report_text_short c.args.bytes.now c.in-Ok.text.items c.in-Ok.ensures in
    lines_of_short c.deref.result.now (omega (arith, short, ap length c.deref.ensures.value, c.requires))

pub returns-in-Ok-read_report-clause-found : goal.returns-in-Ok-read_report-clause-found
returns-in-Ok-read_report-clause-found c =
    let (d, is, text) = stands_for report_text_in c.args.bytes.now c.in-Ok.text.items c.in-Ok.ensures in
    let report = c.in-Ok-read_report.report in
    let read = c.in-Ok-read_report.ensures.found in
    let same : c.in-Ok.text.items ≡ report_text report = search rules in
    (read.0, d, is, text ∙ ap Some same)
