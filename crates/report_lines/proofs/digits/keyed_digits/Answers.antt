use Rattle.std.specs.Str.Parse.{digits_value}
use Rattle.report_form.specs.Fields.{any_number}
use Rattle.report_lines.proofs.Keyed.{keyed_tells}
use Rattle.report_lines.proofs.digits.keyed_digits.Goals as goal

pub returns-clause-read : goal.returns-clause-read
returns-clause-read c = keyed_tells c.args.key.now any_number c.args.tokens.now.words c.next_value.new.tokens.words c.in_ok-value.value.now (λ digits. digits_value 10 digits.now) c.digits.result c.in_ok-value.ensures c.digits.ensures.read
