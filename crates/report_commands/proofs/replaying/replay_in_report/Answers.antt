use Rattle.report_commands.proofs.Pointed.{replay_of}
use Rattle.report_commands.proofs.replaying.replay_in_report.Goals as goal

pub returns : goal.returns
returns c = replay_of c.args.report.now c.args.asked c.args.order (c.in-Some.part, c.in-Some.point.now) c.in_ok-text.text.items c.in-Some.ensures.some c.in_ok-text.ensures
