use Rattle.std.proofs.Common.{◌≡◌, ◌-◌, ◌∙◌, None, Some, ap, arith}
use Rattle.node_programs.specs.{Machines.event, Runs.{chosen, enabled, next_draw, picked, ranked}}
use Rattle.replay.proofs.{Ended.drawn_last, Moving.{event_some, picked_ends, picked_none, picked_on, run_more}}
use Rattle.replay.proofs.by_order.replay_by_order.Goals as goal

pub returns-in_default-next-clause-chosen : goal.returns-in_default-next-clause-chosen
returns-in_default-next-clause-chosen c =
    let none : None ≡ ranked (enabled c.loop-turn.machine) (next_draw c.loop-turn.generator.state) = c.in_default-next.ensures.node in
    let left = c.in-Some.count - c.loop-turn._turn in
    picked_ends c.in-Some.count c.args.machine.now c.args.seed c.loop-turn.moves.items left c.loop-turn.machine c.loop-turn.generator.state c.loop-turn.invariant.drawn (picked_none left c.loop-turn.machine c.loop-turn.generator.state none)
    ∙ ap (λ n. picked n c.args.machine.now c.args.seed) c.in-Some.ensures

pub returns-in_default-next-clause-finished : goal.returns-in_default-next-clause-finished
returns-in_default-next-clause-finished c =
    drawn_last c.args.machine.now c.loop-turn.machine c.loop-turn.moves.items c.args.seed (returns-in_default-next-clause-chosen c) c.loop-turn.invariant.ran

pub loop-turn-preserved : goal.loop-turn-preserved
loop-turn-preserved c =
    let was = c.loop-turn.invariant in
    let s = c.loop-turn.machine in
    let node = c.in-Some-next.node in
    let moves : event s node ≡ Some c.fire.new.self = event_some s c.fire.new.self node c.in-Some-next.ensures.enabled c.fire.ensures.state in
    let drawn : Some node ≡ ranked (enabled s) (next_draw c.loop-turn.generator.state) = c.in-Some-next.ensures.node in
    record {
      ran = rw c.push.ensures.items (run_more c.loop-turn.moves.items c.args.machine.now s c.fire.new.self node was.ran moves);
      drawn = rw c.next.ensures.state (picked_on c.in-Some.count c.args.machine.now c.args.seed c.loop-turn.moves.items c.push.new.moves.items c.loop-turn._turn s c.fire.new.self c.loop-turn.generator.state node c.loop-turn-test.true was.drawn drawn moves c.push.ensures.items);
      len = omega (arith, c.push.ensures.len, was.len);
      room = omega (arith, c.push.ensures.room, was.room);
    }

pub returns-clause-finished : goal.returns-clause-finished
returns-clause-finished c =
    let none : c.in-Some.count - c.loop-turn._turn ≡ 0 = omega (arith, c.loop-turn-test.false) in
    let all : c.loop-turn.moves.items ≡ chosen c.args.machine.now c.args.seed =
    picked_ends c.in-Some.count c.args.machine.now c.args.seed c.loop-turn.moves.items (c.in-Some.count - c.loop-turn._turn) c.loop-turn.machine c.loop-turn.generator.state c.loop-turn.invariant.drawn (ap (λ n. picked n c.loop-turn.machine c.loop-turn.generator.state) none)
    ∙ ap (λ n. picked n c.args.machine.now c.args.seed) c.in-Some.ensures in
    drawn_last c.args.machine.now c.loop-turn.machine c.loop-turn.moves.items c.args.seed all c.loop-turn.invariant.ran
