use Rattle.std.proofs.Common.{arith}
use Rattle.frontier_report.proofs.Onward.{lines_of_short}
use Rattle.given_reports.proofs.ReadReports.{read_refused}
use Rattle.given_reports.proofs.report_text.report_of_text.Goals as goal

pub read_report-requires : goal.read_report-requires
read_report-requires c = lines_of_short c.args.bytes.now (omega (arith, c.requires))

pub returns-in_ok-bad_report-in-Err : goal.returns-in_ok-bad_report-in-Err
returns-in_ok-bad_report-in-Err c = record {
  refusal = _;
  is = read_refused c.args.bytes.now c.in-Err.fault.code c.in-Err.fault.line c.in-Err.ensures.exact c.in_ok-bad_report-in-Err.ensures.code;
  says = c.in_ok-bad_report-in-Err.ensures.says;
}
