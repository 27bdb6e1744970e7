use Rattle.frontier_report.proofs.Onward.{groups_onward}
use Rattle.frontier_report.proofs.topology.groups_in.Goals as goal

pub returns-in-Ok-clause-onward : goal.returns-in-Ok-clause-onward
returns-in-Ok-clause-onward c = groups_onward c.args.names.now.keys c.args.lines.now.place (c.in-Ok.groups.items, c.groups_part.new.lines.place) c.in-Ok.ensures.read
