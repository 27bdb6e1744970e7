use Rattle.std.proofs.{Common.{◌≡◌, ◌∙◌, ap, length, arith}, lemmas.List.FromFn.length-map-range_with_len}
use Rattle.node_programs.{proofs.{Pushing.{each, first_steps, step_pushed}, InRange.programs_below}, specs.Programs.programs_of}
use Rattle.node_programs.proofs.programming.programs_of.Goals as goal

pub loop-step-preserved : goal.loop-step-preserved
loop-step-preserved c = step_pushed c.args.schedule.now c.args.adding c.loop-step.step c.args.nodes c.sends_of-sends.result.now _ _ c.sends_of-sends.ensures.sends c.loop-step.invariant c.in_ok-push_step.ensures

pub returns-clause-programs : goal.returns-clause-programs
returns-clause-programs c = grind (arith, each, first_steps)

pub returns-clause-nodes : goal.returns-clause-nodes
returns-clause-nodes c =
    ap length (c.new.ensures ∙ c.loop-step.invariant) ∙ length-map-range_with_len (first_steps c.args.schedule.now c.args.adding c.loop-step.step) 0 c.args.nodes

pub returns-clause-in_range : goal.returns-clause-in_range
returns-clause-in_range c = λ chunks range.
    let all : c.loop-step.step ≡ length c.args.schedule.now.rounds = omega (arith, ap length c.rounds-steps.ensures.rounds) in
    let programs : c.new.result ≡ programs_of c.args.nodes c.args.schedule.now c.args.adding = c.new.ensures ∙ c.loop-step.invariant ∙ ap (λ n. each c.args.nodes (first_steps c.args.schedule.now c.args.adding n)) all in
    rw programs (programs_below c.args.nodes c.args.schedule.now c.args.adding chunks range)
