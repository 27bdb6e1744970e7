use Rattle.report_form.specs.Reading.{report_of}
use Rattle.json_rules.{specs.ReportForm.report, proofs.ReadJson.read_alike}
use Rattle.json_rules.proofs.laws.report_is_of_its_form.Goals as goal

pub returns : goal.returns
returns c names = read_alike (report names) report_of
