use Rattle.std.proofs.Common.{◌∙◌}
use Rattle.allreduce_join.proofs.Clashed.{clash_adding, clash_copying}
use Rattle.allreduce_join.proofs.clash.clash_at.Goals as goal

pub returns-then-step-adding : goal.returns-then-step-adding
returns-then-step-adding c = clash_adding c.args.chunks c.args.nodes c.args.schedule.now c.args.adding c.args.step c.if-step-adding.true

pub returns : goal.returns
returns c = c.first_pair.ensures ∙ clash_copying c.args.chunks c.args.nodes c.args.schedule.now c.args.adding c.args.step c.in_ok-twice.twice c.if-step-adding.false c.in_ok-twice.ensures
