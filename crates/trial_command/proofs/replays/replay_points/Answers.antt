use Rattle.std.proofs.Common.{◌≡◌, ◌+◌, arith, rules}
use Rattle.node_programs.specs.Runs.{operations}
use Rattle.replay_text.specs.Showing.{machine_of, shown_in}
use Rattle.trial_command.proofs.Numbers.{all_numbered, sum_all, sum_more, within_more}
use Rattle.trial_command.proofs.replays.replay_points.Goals as goal

pub loop-part-preserved : goal.loop-part-preserved
loop-part-preserved c =
    let r = c.args.report.now in
    let at = c.loop-part.invariant in
    let next : c.in_ok-number.number ≡ c.loop-part.number + 1 = search rules in
    record {
      some = omega arith;
      within = within_more r c.loop-part.number c.in_ok-number.number _ at.some next c.in-Some.ensures.some;
      count = omega (arith, at.some, next, at.count, c.in_ok-count.ensures);
      events = sum_more (λ p. operations (machine_of (shown_in r p))) r c.loop-part.number c.in_ok-number.number c.loop-part.events c.in_ok-events.events c.in_ok-replay_in_orders.field-0 _
          at.some next c.in-Some.ensures.some at.events c.in_ok-replay_in_orders.ensures c.in_ok-events.ensures;
    }

pub returns-clause-count : goal.returns-clause-count
returns-clause-count c =
    let r = c.args.report.now in
    let at = c.loop-part.invariant in
    let all = all_numbered r c.loop-part.number at.some at.within c.in_default.ensures.none in
    omega (arith, all, at.count)

pub returns-clause-events : goal.returns-clause-events
returns-clause-events c =
    let r = c.args.report.now in
    let at = c.loop-part.invariant in
    sum_all (λ p. operations (machine_of (shown_in r p))) r c.loop-part.number c.loop-part.events (all_numbered r c.loop-part.number at.some at.within c.in_default.ensures.none) at.events
