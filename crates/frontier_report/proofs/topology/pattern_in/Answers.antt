use Rattle.frontier_report.proofs.Onward.{pattern_onward}
use Rattle.frontier_report.proofs.topology.pattern_in.Goals as goal

pub returns-in-Ok-clause-onward : goal.returns-in-Ok-clause-onward
returns-in-Ok-clause-onward c = pattern_onward c.args.patterned c.args.names.now.keys c.args.lines.now.place (c.in-Ok.pattern, c.pattern_part.new.lines.place) c.in-Ok.ensures.read
