use Rattle.std.proofs.Common.{◌≡◌}
use Rattle.replay_text.proofs.Machined.{below_same}
use Rattle.replay_text.proofs.programs.point_programs.Goals as goal

pub returns-clause-in_range : goal.returns-clause-in_range
returns-clause-in_range c =
    let nodes : c.nodes-nodes.result ≡ c.args.report.now.topology.topology.nodes = cc in
    below_same c.programs_of.result _ _ _ _ nodes c.schedule.ensures c.programs_of.ensures.in_range
