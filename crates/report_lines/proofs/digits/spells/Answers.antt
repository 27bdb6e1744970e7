use Rattle.std.specs.Str.Parse.{digits_value}
use Rattle.report_lines.proofs.InRange.{only_itself}
use Rattle.report_lines.proofs.digits.spells.Goals as goal

pub returns : goal.returns
returns c = rw (c.is_some.ensures, c.number_in.ensures.spelled, c.from.ensures, c.from-2.ensures) (only_itself (digits_value 10 c.args.digits.now) c.args.number)
