use Rattle.report_form.proofs.ReportTaken.{report_take}
use Rattle.report_form.proofs.laws.what_is_read_is_spelled.Goals as goal

pub returns : goal.returns
returns c = record { valid = λ text r e. (report_take text r e).valid; spelled = λ text r e. (report_take text r e).spelled }
