use Rattle.std.proofs.Common.{◌≡◌, ap, length, arith}
use Rattle.bag_runs.proofs.Stepping.{come_more, run_whole}
use Rattle.bag_runs.proofs.steps.replay_steps.Goals as goal

pub loop-step-preserved : goal.loop-step-preserved
loop-step-preserved c =
    come_more c.args.start.now c.args.schedule.now c.args.adding c.loop-step.held c.loop-step.run.items c.loop-step.step c.loop-step.invariant c.in_ok-next.next _
    c.in_ok-next.ensures.bags c.in_ok-next.ensures.chunks c.in_ok-next.ensures.nodes c.in_ok-push.ensures.items

pub returns : goal.returns
returns c =
    let all : c.loop-step.step ≡ length c.args.schedule.now.rounds = omega (arith, ap length c.rounds-steps.ensures.rounds) in
    run_whole c.args.start.now c.args.schedule.now c.args.adding c.loop-step.held c.loop-step.run.items c.loop-step.step c.loop-step.invariant _ all c.in_ok-push-2.ensures.items
