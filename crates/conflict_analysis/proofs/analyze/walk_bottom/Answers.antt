use Rattle.std.proofs.Common.{◌-◌, arith}
use Rattle.conflict_analysis.{specs.Met.value_of, proofs.{Resolved.{walked_on, open_on, above_on}, Waiting.{walked_all, bottom_step}}}
use Rattle.conflict_analysis.proofs.analyze.walk_bottom.Goals as goal

pub resolve-requires-clause-step : goal.resolve-requires-clause-step
resolve-requires-clause-step c = bottom_step c.args.core.now (value_of c.loop-walk.walk) c.waiting_below-place.result c.requires.formed c.requires.grounded c.loop-walk.invariant.walked.sorted c.waiting_below-place.ensures.next

pub loop-walk-preserved : goal.loop-walk-preserved
loop-walk-preserved c =
    let core = c.args.core.now in
    let old = value_of c.args.walk.now in
    let w = value_of c.loop-walk.walk in
    let after = value_of c.resolve.new.walk in
    let inv = c.loop-walk.invariant in
    let place = c.waiting_below-place.result in
    let next = c.waiting_below-place.ensures.next in
    let taken = c.in_ok-resolve.ensures in
    let zero = inv.walked.sorted.marked.bottom place next.within next.waits in
    record {
      under = omega (arith, c.waiting_below-place.ensures.below, inv.under);
      walked = walked_on core old w after w.open_ (w.zeros - 1) place taken 3 (λ h. omega (arith, h)) inv.walked.onward next.passed;
      same = open_on core old w after w.open_ (w.zeros - 1) place taken (λ some. omega (arith, zero, some)) inv.same;
      above = above_on core old w after w.open_ (w.zeros - 1) place taken c.args.from (omega (arith, c.waiting_below-place.ensures.below, inv.under)) inv.above;
    }

pub returns-clause-walked : goal.returns-clause-walked
returns-clause-walked c = walked_all c.args.core.now (value_of c.args.walk.now) (value_of c.loop-walk.walk) c.loop-walk.place c.requires.formed (omega (arith, c.loop-walk-test.false)) c.loop-walk.invariant.walked
