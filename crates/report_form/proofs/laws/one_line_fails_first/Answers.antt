use Rattle.report_form.proofs.Blamed.{one_line, empty_fails}
use Rattle.report_form.proofs.laws.one_line_fails_first.Goals as goal

pub returns : goal.returns
returns c = record { unique = one_line; empty = empty_fails }
