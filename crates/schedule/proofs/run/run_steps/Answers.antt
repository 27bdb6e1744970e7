use Rattle.std.{proofs.Common.{◌≡◌, ◌∙◌, ◌+◌, ap, length, map, arith}, specs.List.range_with_len}
use Rattle.schedule.{specs.Running.after, proofs.Stepping.{range_after, after_more, run_more}}
use Rattle.schedule.proofs.run.run_steps.Goals as goal

pub joined-requires : goal.joined-requires
joined-requires c = range_after c.args.pre.now _ c.args.schedule.now c.loop-step.step c.requires c.loop-step.invariant.0

pub loop-step-preserved : goal.loop-step-preserved
loop-step-preserved c =
    let pre = c.args.pre.now in
    let s = c.args.schedule.now in
    (after_more pre c.loop-step.held _ s c.loop-step.step c.loop-step.invariant.0 c.in_ok-next.ensures, c.in_ok-push.ensures.items ∙ run_more pre c.loop-step.held c.loop-step.run.items s c.loop-step.step c.loop-step.invariant.0 c.loop-step.invariant.1)

pub returns : goal.returns
returns c =
    let pre = c.args.pre.now in
    let s = c.args.schedule.now in
    let all : c.loop-step.step ≡ length s.rounds = omega (arith, ap length c.rounds-steps.ensures.rounds) in
    c.in_ok-push-2.ensures.items
    ∙ (run_more pre c.loop-step.held c.loop-step.run.items s c.loop-step.step c.loop-step.invariant.0 c.loop-step.invariant.1
    ∙ ap (λ n. map (after pre s) (range_with_len 0 (n + 1))) all)
