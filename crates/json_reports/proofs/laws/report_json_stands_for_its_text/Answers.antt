use Rattle.json_reports.proofs.ReportForm.{report_form}
use Rattle.json_reports.proofs.laws.report_json_stands_for_its_text.Goals as goal

pub returns : goal.returns
returns c r valid = report_form r valid
