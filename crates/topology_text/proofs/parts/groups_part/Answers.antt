use Rattle.std.proofs.Common.{length-append, arith}
use Rattle.text_lines.proofs.Repeated.{line_refused, line_accepted, lines_ended}
use Rattle.topology_text.proofs.Groups.{next_group}
use Rattle.topology_text.proofs.parts.groups_part.Goals as goal

pub returns-in-Err-Refused-clause-read : goal.returns-in-Err-Refused-clause-read
returns-in-Err-Refused-clause-read c = grind (arith, line_refused, next_group)

pub loop-line-preserved : goal.loop-line-preserved
loop-line-preserved c = grind (arith, length-append, line_accepted, next_group)

pub returns-clause-read : goal.returns-clause-read
returns-clause-read c = grind (arith, lines_ended, next_group)
