use Rattle.json_reports.proofs.Short.{report_text_short}
use Rattle.json_reports.proofs.laws.text_of_report_json_is_short.Goals as goal

pub returns : goal.returns
returns c = report_text_short
