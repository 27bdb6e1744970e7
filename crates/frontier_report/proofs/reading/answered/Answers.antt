use Rattle.report_form.proofs.ReportTaken.{report_take}
use Rattle.frontier_report.specs.inner.Bodies.{parts_value}
use Rattle.frontier_report.proofs.reading.answered.Goals as goal

pub new-requires : goal.new-requires
new-requires c = (report_take c.args.bytes.now (parts_value c.in-Ok.parts) c.in-Ok.ensures).valid
