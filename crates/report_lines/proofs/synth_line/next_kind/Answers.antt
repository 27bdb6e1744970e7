use Rattle.std.proofs.Common.{sym}
use Rattle.report_form.specs.SynthLine.{kind_named}
use Rattle.report_lines.proofs.Keyed.{keyed_none, keyed_some}
use Rattle.report_lines.proofs.synth_line.next_kind.Goals as goal

pub returns-in-Err : goal.returns-in-Err
returns-in-Err c = keyed_none c.args.key.now (kind_named c.args.patterned) c.args.tokens.now.words c.in-Err.code c.in-Err.ensures

pub returns-in-Some : goal.returns-in-Some
returns-in-Some c = keyed_some c.args.key.now (kind_named c.args.patterned) c.args.tokens.now.words c.next_value.new.tokens.words c.in-Ok.value.now _ c.in-Ok.ensures (sym c.in-Some.ensures)

pub returns-in-None : goal.returns-in-None
returns-in-None c = keyed_some c.args.key.now (kind_named c.args.patterned) c.args.tokens.now.words c.next_value.new.tokens.words c.in-Ok.value.now _ c.in-Ok.ensures (sym c.in-None.ensures)
